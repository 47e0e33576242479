-- Callers that look on side by side, and the first of them, which has seen what all saw.
use Rattle.std.specs.Prelude.{◌≡◌, ℕ, ◌<◌, List, length, slice_index_or}
use Rattle.core_journal.specs.Prefix.{IsPrefix}
use Rattle.graph_table.specs.Tokens.{TableValue}
use Rattle.shared_graph.specs.Callers.{CallerValue, IsBetweenCalls, IsCallerOf, LooksOn, front_of}

-- each caller of a list is one of the graph
abbrev pub AreCallersOf : TableValue → List CallerValue → Type 0
AreCallersOf g cs = (i : ℕ) (d : CallerValue) → i < length cs → IsCallerOf g (slice_index_or cs i d)

-- each caller of a list is between two calls
abbrev pub AreBetweenCalls : List CallerValue → Type 0
AreBetweenCalls cs = (i : ℕ) (d : CallerValue) → i < length cs → IsBetweenCalls (slice_index_or cs i d).hand

-- callers have looked on, each in its place
pub record LookOnEach (old new : List CallerValue) : Type 0 where
  pub count : length new ≡ length old
  pub each : (i : ℕ) (d : CallerValue) → i < length old → LooksOn (slice_index_or old i d) (slice_index_or new i d)

-- what a caller saw before, the first one has seen now
abbrev pub FirstHasMet : List CallerValue → List CallerValue → ℕ → Type 0
FirstHasMet old new i =
    (d e : CallerValue) → IsPrefix (front_of (slice_index_or old i d)) (front_of (slice_index_or new 0 e))
