use Rattle.std.proofs.Common.{rules, take_all}
use Rattle.caller_run.proofs.Driving.{driven-none, driven-next, driven-some}
use Rattle.caller_run.proofs.drive.drive.Goals as goal

pub loop-call-init : goal.loop-call-init
loop-call-init g c = record {
  number = search rules;
  origin = search rules;
  driven = rw c.requires.empty
      (driven-none g.P.CallerPort.book g.P.CallerPort.left g.P.CallerPort.front c.args.port.now c.args.tries);
}

pub returns-in_err-keep-clause-some : goal.returns-in_err-keep-clause-some
returns-in_err-keep-clause-some g c =
    let s = c.in_err-keep.ensures.short in
    driven-some g.P.CallerPort.book g.P.CallerPort.left g.P.CallerPort.front _ _ c.args.tries _ c.args.calls.now _
    (driven-next g.P.CallerPort.book g.P.CallerPort.left g.P.CallerPort.front _ _ _ c.args.tries
    c.loop-call.call-index c.args.calls.now _ _ s.0 c.loop-call.invariant.driven (search rules) s.1)

pub loop-call-preserved : goal.loop-call-preserved
loop-call-preserved g c =
    let s = c.in_ok-keep.ensures.one in
    record {
      number = search rules;
      origin = search rules;
      driven = rw s.2
          (driven-next g.P.CallerPort.book g.P.CallerPort.left g.P.CallerPort.front _ _ _ c.args.tries
          c.loop-call.call-index c.args.calls.now _ _ s.0 c.loop-call.invariant.driven (search rules) s.1);
    }

pub returns-clause-all : goal.returns-clause-all
returns-clause-all g c =
    rw (← take_all c.loop-call.call-index c.args.calls.now c.loop-call-test.false) c.loop-call.invariant.driven.all
