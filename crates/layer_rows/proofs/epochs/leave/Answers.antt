use Rattle.std.proofs.Common.{false, true, [], ◌∷◌, arith}
use Rattle.core_rule.specs.OwnEvents.{withdraw_event}
use Rattle.layer_rows.proofs.WaitingGoesOn.{waiting_on}
use Rattle.layer_rows.proofs.epochs.leave.Goals as goal

pub returns-clause-waiting : goal.returns-clause-waiting
returns-clause-waiting c =
    let v = c.args.token.now.view in
    let w = c.close_pass.new.token.view in
    waiting_on true false c.args._moves c.args._moves v w (withdraw_event v ∷ []) c.args.limbo.now.nodes
    c.requires.table.layout c.close_pass.ensures.makes (omega arith) c.close_pass.ensures.closed
    ((λ y. absurd (cc)), tt) c.requires.waiting
