use Rattle.limbo_calls.proofs.StaysSteady.{steady_moved, limbo_moved}
use Rattle.limbo_calls.proofs.moving.move_on.Goals as goal

pub returns-clause-steady : goal.returns-clause-steady
returns-clause-steady c =
    steady_moved c.args._steps c.args.token.now.view c.advance.new.token.view c.advance.result c.requires.table.layout
    c.advance.ensures.advanced c.requires.steady

pub returns-clause-limbo : goal.returns-clause-limbo
returns-clause-limbo c =
    limbo_moved c.args.token.now.view c.advance.new.token.view c.advance.result c.args.limbo.now.nodes
    c.requires.table.layout c.advance.ensures.advanced c.requires.limbo
