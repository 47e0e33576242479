use Rattle.std.proofs.Common.{false, true, [], ◌∷◌, arith}
use Rattle.core_rule.specs.OwnEvents.{announce_event}
use Rattle.core_stretches.proofs.HoldingsStay.{makes_none}
use Rattle.limbo_calls.proofs.StaysSteady.{steady_more}
use Rattle.limbo_calls.proofs.adding.open.Goals as goal

pub returns-clause-steady : goal.returns-clause-steady
returns-clause-steady c =
    let v = c.args.token.now.view in
    let w = c.open_pass.new.token.view in
    let o = c.open_pass.ensures.opened in
    let s = c.requires.steady in
    steady_more false true c.args._steps c.args._steps v w (announce_event v o.epoch ∷ []) o.makes (omega arith)
    (omega arith) (makes_none v w (announce_event v o.epoch ∷ []) c.requires.table.layout
    ((λ y. absurd (cc)), tt) o.makes s.bare) o.opened s
