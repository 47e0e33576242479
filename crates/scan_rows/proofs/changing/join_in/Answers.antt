use Rattle.std.proofs.Common.{◌∷◌, [], refl}
use Rattle.core_rule.specs.OwnEvents.{announce_event}
use Rattle.scan_rows.proofs.UsesStay.{uses_stay}
use Rattle.scan_rows.proofs.changing.join_in.Goals as goal

pub returns-clause-uses : goal.returns-clause-uses
returns-clause-uses c =
    let v = c.args.token.now.view in
    let m = c.begin_pass.ensures.makes in
    uses_stay v c.begin_pass.new.token.view (announce_event v m.0 ∷ []) m.1 refl refl refl c.requires.uses
