use Rattle.vertex_calls.proofs.ReadyStays.{ready_looks}
use Rattle.vertex_calls.proofs.calls.forward.Goals as goal

pub returns-clause-ready : goal.returns-clause-ready
returns-clause-ready c =
    ready_looks c.args._taken c.args.token.now.view c.step.new.token.view c.requires.table.layout c.step.ensures.makes
    c.requires.ready
