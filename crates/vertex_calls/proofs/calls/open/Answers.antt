use Rattle.vertex_calls.proofs.ReadyStays.{opened}
use Rattle.vertex_calls.proofs.calls.open.Goals as goal

pub returns-clause-ready : goal.returns-clause-ready
returns-clause-ready c =
    opened c.args.token.now.view c.open_pass.new.token.view c.requires.table.layout c.requires.resting c.requires.uses
    c.open_pass.ensures.opened
