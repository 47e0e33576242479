use Rattle.std.proofs.Common.{◌∙◌, sym}
use Rattle.graph_updates.proofs.EdgeRaisesTell.{raised_already, told_same}
use Rattle.graph_updates.proofs.edge_adding.raise_once.Goals as goal

pub returns-in-Some-clause-raised : goal.returns-in-Some-clause-raised
returns-in-Some-clause-raised c =
    let moment = c.args.seen.now.moment.value.view.front in
    raised_already c.args.from c.args.seen.now.edge moment c.args.seen.now.edge.key c.args.last c.in-Some.last
    c.args.token.now.view c.requires.number c.requires.table.sound c.in-Some.is c.requires.last c.requires.seen
    (sym c.life.ensures.life ∙ told_same c.life.result c.args.seen.now.edge.life c.eq.result c.eq.ensures c.if-eq.true)
