use Rattle.std.proofs.Common.{◌-◌}
use Rattle.table_calls.proofs.Known.{Checking}
use Rattle.table_calls.proofs.calls.check_callers.Given as goal

abbrev pub invariant-loop-checked : goal.invariant-loop-checked
invariant-loop-checked l = Checking l.table l.fn.token.view l.seen l.checked l.token

abbrev pub decreases-loop-checked : goal.decreases-loop-checked
decreases-loop-checked l = l.callers - l.checked
