use Rattle.std.proofs.Common.{◌-◌}
use Rattle.tree_scan.proofs.ListsWalked.{IsWalked}
use Rattle.tree_scan.proofs.collecting.collect_list.Given as goal

abbrev pub invariant-loop-token : goal.invariant-loop-token
invariant-loop-token l = IsWalked l.fn.table l.fn.token l.fn.scan l.fn.head l.token l.scan l.at l.steps

abbrev pub decreases-loop-token : goal.decreases-loop-token
decreases-loop-token l = l.fn.table.sizes.nodes - l.steps
