use Rattle.std.proofs.Common.{◌≡◌, ◌≢◌, ℕ, ◌<◌, ◌-◌, length}
use Rattle.scan_record.specs.Asked.{KeepsRows}
use Rattle.path_costs.specs.Heap.{state_of, settled_count, IsHeap}
use Rattle.path_costs.specs.Search.{key_of_row, IsSearch}
use Rattle.path_costs.proofs.search.search.Given as goal

abbrev pub invariant-loop-waiting : goal.invariant-loop-waiting
invariant-loop-waiting l = record {
  kept : KeepsRows l.fn.scan l.scan;
  heap : IsHeap l.scan l.waiting;
  search : IsSearch l.scan;
  not_yet : (r : ℕ) → r < length l.scan.rows → state_of l.scan r ≡ 1 → key_of_row l.scan r ≢ l.goal;
}

abbrev pub decreases-loop-waiting : goal.decreases-loop-waiting
decreases-loop-waiting l = length l.scan.rows - settled_count l.scan
