use Rattle.layer_rows.proofs.WaitingGoesOn.{waiting_moved}
use Rattle.layer_rows.proofs.epochs.move_on.Goals as goal

pub returns-clause-waiting : goal.returns-clause-waiting
returns-clause-waiting c =
    waiting_moved c.args._moves c.args.token.now.view c.advance.new.token.view c.advance.result c.args.limbo.now.nodes
    c.requires.table.layout c.advance.ensures.advanced c.requires.waiting
