use Rattle.vertex_calls.proofs.Causes.{is_walked}
use Rattle.vertex_calls.proofs.ReadyStays.{pass_looks}
use Rattle.vertex_calls.proofs.calls.look_again.Goals as goal

pub returns-clause-pass : goal.returns-clause-pass
returns-clause-pass c = pass_looks c.start-position.new.token.view c.walk.new.token.view c.walk.ensures.makes
    (pass_looks c.args.token.now.view c.start-position.new.token.view c.start-position.ensures.makes c.requires.pass)

pub returns-clause-walked : goal.returns-clause-walked
returns-clause-walked c =
    is_walked c.args.token.now.view c.start-position.new.token.view c.walk.new.token.view c.args.key
    c.start-position.result c.walk.result c.start-position.ensures.makes c.start-position.ensures.key
    c.start-position.ensures.moment c.walk.ensures.makes c.walk.ensures.found
