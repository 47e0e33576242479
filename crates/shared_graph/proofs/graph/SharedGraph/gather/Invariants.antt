use Rattle.std.proofs.Common.{◌≡◌, ℕ, ◌<◌, ◌≤◌, get_or}
use Rattle.shared_graph.specs.Callers.{CallerValue, IsBetweenCalls}
use Rattle.shared_graph.specs.Gathering.{AreCallersOf, FirstHasMet, LookOnEach}
use Rattle.shared_graph.proofs.graph.SharedGraph.gather.Given as goal

abbrev pub invariant-loop-number : goal.invariant-loop-number
invariant-loop-number l = record {
  callers : AreCallersOf l.self l.callers;
  between : (i : ℕ) (d : CallerValue) → i < l.number → IsBetweenCalls (get_or l.initial.callers i d).hand;
  same : (i : ℕ) (d : CallerValue) → l.number ≤ i → get_or l.callers i d ≡ get_or l.initial.callers i d;
  looks : LookOnEach l.initial.callers l.callers;
  met : (i : ℕ) → i < l.number → FirstHasMet l.initial.callers l.callers i;
}
