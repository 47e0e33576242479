use Rattle.vertex_calls.proofs.ReadyStays.{in_pass, linked}
use Rattle.vertex_calls.proofs.calls.add.Goals as goal

pub returns-clause-ready : goal.returns-clause-ready
returns-clause-ready c =
    linked c.args._taken c.args.token.now.view c.link.new.token.view c.args.position c.args.fresh c.link.result
    c.link.ensures.linked c.requires.prepared

pub returns-clause-pass : goal.returns-clause-pass
returns-clause-pass c =
    in_pass c.args._taken c.args.token.now.view c.link.new.token.view c.args.position c.args.fresh c.link.result
    c.link.ensures.linked c.requires.prepared
