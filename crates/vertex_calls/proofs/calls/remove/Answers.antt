use Rattle.vertex_calls.proofs.ReadyStays.{marked, met_still}
use Rattle.vertex_calls.proofs.calls.remove.Goals as goal

pub returns-clause-ready : goal.returns-clause-ready
returns-clause-ready c =
    marked c.args._taken c.args.token.now.view c.mark.new.token.view c.args.life c.mark.result c.requires.table.layout
    c.mark.ensures.marked c.requires.ready

pub returns-clause-vertex : goal.returns-clause-vertex
returns-clause-vertex c =
    met_still c.args.token.now.view c.mark.new.token.view c.args.life c.mark.result c.requires.table.layout
    c.mark.ensures.marked c.requires.vertex
