use Rattle.std.proofs.Common.{◌≡◌, ℕ, ◌<◌, ◌≤◌}
use Rattle.path_costs.specs.Heap.{states_of, cost_at, IsBelow, IsHeapBut}
use Rattle.path_costs.proofs.heap.rise.Given as goal

abbrev pub invariant-loop-at : goal.invariant-loop-at
invariant-loop-at l = record {
  heap : IsHeapBut l.scan l.places l.at;
  there : l.at < l.places;
  below : (p : ℕ) → p < l.places → IsBelow l.at p → cost_at l.scan l.at ≤ cost_at l.scan p;
  states : states_of l.scan ≡ states_of l.fn.scan;
  rest : l.scan ≡ record l.fn.scan { slot_zero = l.scan.slot_zero; slot_one = l.scan.slot_one };
}

abbrev pub decreases-loop-at : goal.decreases-loop-at
decreases-loop-at l = l.at
