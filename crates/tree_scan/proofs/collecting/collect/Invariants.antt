use Rattle.std.proofs.Common.{◌-◌}
use Rattle.tree_scan.proofs.RowsCollected.{IsCollecting}
use Rattle.tree_scan.proofs.collecting.collect.Given as goal

abbrev pub invariant-loop-row : goal.invariant-loop-row
invariant-loop-row l = IsCollecting l.fn.table l.fn.token l.fn.root l.fn.scan l.token l.scan l.row

abbrev pub decreases-loop-row : goal.decreases-loop-row
decreases-loop-row l = l.fn.scan.nodes - l.row
