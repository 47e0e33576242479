use Rattle.std.proofs.Common.{◌≡◌, ◌+◌, ◌-◌, ◌≤◌, ◌++◌, length, take, reverse}
use Rattle.path_levels.specs.Queue.{trail}
use Rattle.path_levels.specs.Search.{KeepsRowsAndCosts}
use Rattle.path_levels.proofs.shortest.gather.Given as goal

abbrev pub invariant-loop-at : goal.invariant-loop-at
invariant-loop-at l = record {
  kept : KeepsRowsAndCosts l.fn.scan l.scan;
  keys : l.scan.keys ≡ l.fn.scan.keys;
  parents : l.scan.slot_one ≡ l.fn.scan.slot_one;
  long : length l.scan.slot_two ≡ length l.fn.scan.rows;
  steps : l.count + l.at ≤ l.fn.goal;
  way : trail l.fn.scan.keys l.fn.scan.slot_one l.fn.goal l.fn.goal
      ≡ trail l.fn.scan.keys l.fn.scan.slot_one (l.fn.goal - l.count) l.at ++ reverse (take l.count l.scan.slot_two);
}

abbrev pub decreases-loop-at : goal.decreases-loop-at
decreases-loop-at l = l.at
