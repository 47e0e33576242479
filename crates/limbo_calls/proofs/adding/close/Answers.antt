use Rattle.std.proofs.Common.{false, true, [], ◌∷◌, arith}
use Rattle.core_rule.specs.OwnEvents.{withdraw_event}
use Rattle.core_stretches.proofs.HoldingsStay.{makes_none}
use Rattle.limbo_calls.proofs.StaysSteady.{steady_more}
use Rattle.limbo_calls.proofs.adding.close.Goals as goal

pub returns-clause-steady : goal.returns-clause-steady
returns-clause-steady c =
    let v = c.args.token.now.view in
    let w = c.close_pass.new.token.view in
    let makes = c.close_pass.ensures.makes in
    let s = c.requires.steady in
    steady_more true false c.args._steps c.args._steps v w (withdraw_event v ∷ []) makes (omega arith) (omega arith)
    (makes_none v w (withdraw_event v ∷ []) c.requires.table.layout ((λ y. absurd (cc)), tt) makes s.bare)
    c.close_pass.ensures.closed s
