use Rattle.std.proofs.Common.{◌≡◌, take}
use Rattle.caller_run.proofs.Driving.{Driven}
use Rattle.caller_run.proofs.drive.drive.Given as goal

abbrev pub invariant-loop-call : goal.invariant-loop-call
invariant-loop-call g l = record {
  number : g.P.CallerPort.number l.port ≡ g.P.CallerPort.number l.fn.port;
  origin : g.P.CallerPort.origin l.port ≡ g.P.CallerPort.origin l.fn.port;
  driven : Driven g.P.CallerPort.book g.P.CallerPort.left g.P.CallerPort.front l.fn.port l.port l.tries
      (take l.call-index l.calls) l.kept.items;
}
