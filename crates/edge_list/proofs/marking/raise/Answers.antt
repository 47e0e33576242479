use Rattle.edge_list.proofs.EdgeMarksTell.{may_raise_seen, raising}
use Rattle.edge_list.proofs.marking.raise.Goals as goal

pub raise-requires-clause-may : goal.raise-requires-clause-may
raise-requires-clause-may c =
    may_raise_seen c.args.token.now.view c.args.from c.args.edge.now c.requires.seen.0 c.requires.table.layout
    c.requires.seen.1 c.requires.limit

pub returns-clause-raised : goal.returns-clause-raised
returns-clause-raised c =
    raising c.args.token.now.view c.args.from c.args.edge.now c.requires.seen.0 c.requires.table.layout
    c.requires.seen.1 c.raise.new.token.view _ c.raise.result c.requires.number c.requires.table.sound
    c.raise.ensures.raised
