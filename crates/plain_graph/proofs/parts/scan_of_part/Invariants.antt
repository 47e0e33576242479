use Rattle.std.proofs.Common.{◌≤◌, ◌-◌}
use Rattle.plain_graph.proofs.parts.scan_of_part.Given as goal

abbrev pub invariant-loop-scan : goal.invariant-loop-scan
invariant-loop-scan l = l.room ≤ 65536

abbrev pub decreases-loop-scan : goal.decreases-loop-scan
decreases-loop-scan l = 65536 - l.room
