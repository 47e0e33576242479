use Rattle.std.proofs.Common.{◌≡◌, ℕ, ◌<◌, get_or}
use Rattle.std.specs.Prelude.{vec_len}
use Rattle.shared_graph.specs.Callers.{CallerValue, IsHired}
use Rattle.shared_graph.specs.Hiring.{IsToDraw}
use Rattle.shared_graph.proofs.graph.SharedGraph.hire_all.Given as goal

abbrev pub invariant-loop : goal.invariant-loop
invariant-loop l = record {
  next : IsToDraw l.self l.counter l.token;
  count : vec_len l.hired ≡ l.counter;
  each : (i : ℕ) (d : CallerValue) → i < l.counter → IsHired l.self i (get_or l.hired.items i d);
}
