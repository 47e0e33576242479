use Rattle.std.proofs.Common.{arith}
use Rattle.free_list_rounds.proofs.PassesTell.{advanced}
use Rattle.free_list_rounds.proofs.WorkGoesOn.{counts_chain, spares_chain}
use Rattle.free_list_rounds.proofs.resting.settle.Goals as goal

pub give_ripe-requires-clause-number : goal.give_ripe-requires-clause-number
give_ripe-requires-clause-number c = (advanced c.advance.result c.args.token.now.view c.advance.new.token.view
    c.requires.table.layout c.advance.ensures.advanced).0.numbered c.requires.number

pub give_ripe-requires-clause-closed : goal.give_ripe-requires-clause-closed
give_ripe-requires-clause-closed c = (advanced c.advance.result c.args.token.now.view c.advance.new.token.view
    c.requires.table.layout c.advance.ensures.advanced).1 c.requires.closed

pub give_ripe-requires-clause-work : goal.give_ripe-requires-clause-work
give_ripe-requires-clause-work c = (advanced c.advance.result c.args.token.now.view c.advance.new.token.view
    c.requires.table.layout c.advance.ensures.advanced).0.work c.args.limbo.now c.requires.work

pub returns-clause-spare : goal.returns-clause-spare
returns-clause-spare c = spares_chain c.args.token.now.view c.advance.new.token.view c.give_ripe.new.token.view
    (advanced c.advance.result c.args.token.now.view c.advance.new.token.view
    c.requires.table.layout c.advance.ensures.advanced).0.spares c.give_ripe.ensures.spare

pub returns-clause-counts : goal.returns-clause-counts
returns-clause-counts c = counts_chain c.args.token.now.view c.advance.new.token.view c.give_ripe.new.token.view
    (advanced c.advance.result c.args.token.now.view c.advance.new.token.view
    c.requires.table.layout c.advance.ensures.advanced).0.counts c.give_ripe.ensures.counts
    0 c.give_ripe.result 1 (omega arith) (omega arith) (omega arith)
