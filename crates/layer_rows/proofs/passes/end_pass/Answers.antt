use Rattle.std.proofs.Common.{false, true, refl}
use Rattle.core_rule.specs.OwnEvents.{withdraw_event}
use Rattle.layer_rows.proofs.WorkGoesOn.{gets_none, idle_on, rests_on}
use Rattle.layer_rows.proofs.passes.end_pass.Goals as goal

pub returns-clause-resting : goal.returns-clause-resting
returns-clause-resting c =
    let v = c.args.token.now.view in
    let w = c.close_pass.new.token.view in
    rests_on true false v w (withdraw_event v) c.requires.table.layout (λ y. absurd (cc)) c.close_pass.ensures.makes
    c.close_pass.ensures.closed c.requires.resting

pub returns-clause-idle : goal.returns-clause-idle
returns-clause-idle c =
    let v = c.args.token.now.view in
    let w = c.close_pass.new.token.view in
    let e = withdraw_event v in
    idle_on v w e c.requires.table.layout (gets_none e refl (λ y. absurd (cc))) refl refl c.close_pass.ensures.makes
