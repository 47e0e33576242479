use Rattle.vertex_calls.proofs.ReadyStays.{unlinked}
use Rattle.vertex_calls.proofs.calls.pass_by.Goals as goal

pub returns-in-Done-clause-ready : goal.returns-in-Done-clause-ready
returns-in-Done-clause-ready c =
    unlinked c.args._taken c.args.token.now.view c.unlink.new.token.view c.args.position c.unlink.result
    c.requires.table.layout c.unlink.ensures.unlinked c.requires.ready

pub returns-in-Lost-clause-ready : goal.returns-in-Lost-clause-ready
returns-in-Lost-clause-ready c =
    unlinked c.args._taken c.args.token.now.view c.unlink.new.token.view c.args.position c.unlink.result
    c.requires.table.layout c.unlink.ensures.unlinked c.requires.ready
