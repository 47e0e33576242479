use Rattle.std.proofs.Common.{◌≡◌, ℕ, ◌-◌, ◌≤◌}
use Rattle.path_costs.specs.Heap.{states_of, cost_at, IsBelow, IsHeapBut}
use Rattle.path_costs.proofs.heap.sink.Given as goal

abbrev pub invariant-loop-at : goal.invariant-loop-at
invariant-loop-at l = record {
  heap : IsHeapBut l.scan l.places l.at;
  few : l.places ≤ 65536;
  within : l.at ≤ l.places;
  above : (q : ℕ) → IsBelow q l.at → cost_at l.scan q ≤ cost_at l.scan l.at;
  states : states_of l.scan ≡ states_of l.fn.scan;
  rest : l.scan ≡ record l.fn.scan { slot_zero = l.scan.slot_zero; slot_one = l.scan.slot_one };
}

abbrev pub decreases-loop-at : goal.decreases-loop-at
decreases-loop-at l = l.places - l.at
