use Rattle.std.proofs.Common.{false, true, refl}
use Rattle.core_rule.specs.OwnEvents.{announce_event}
use Rattle.layer_rows.proofs.WorkGoesOn.{gets_none, idle_on, rests_on}
use Rattle.layer_rows.proofs.passes.begin_pass.Goals as goal

pub returns-clause-resting : goal.returns-clause-resting
returns-clause-resting c =
    let v = c.args.token.now.view in
    let w = c.open_pass.new.token.view in
    let o = c.open_pass.ensures.opened in
    rests_on false true v w (announce_event v o.epoch) c.requires.table.layout (λ y. absurd (cc)) o.makes o.opened
    c.requires.resting

pub returns-clause-idle : goal.returns-clause-idle
returns-clause-idle c =
    let v = c.args.token.now.view in
    let w = c.open_pass.new.token.view in
    let o = c.open_pass.ensures.opened in
    let e = announce_event v o.epoch in
    idle_on v w e c.requires.table.layout (gets_none e refl (λ y. absurd (cc))) refl refl o.makes
