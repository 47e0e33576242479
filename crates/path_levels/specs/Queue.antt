-- The queue of a search in breadth: the keys that were met, in the order in which they were first met.
use Rattle.std.specs.Prelude.{◌≡◌, ℕ, zero, suc, ◌<◌, ◌==◌, Bool, cond, List, [], ◌∷◌, ◌++◌, length, slice_index, find}
use Rattle.std.specs.Prelude.{is_some, Some}
use Rattle.graph_kinds.specs.Graph.{Graph, weight_of}
use Rattle.graph_kinds.specs.Levels.{stands_in}

-- the queue after one more key is met: it stands there once
abbrev pub with_met : List ℕ → ℕ → List ℕ
with_met queue key = cond (stands_in queue key) queue (queue ++ key ∷ [])

-- the queue after keys are met in their order
abbrev pub with_all : List ℕ → List ℕ → List ℕ
with_all queue [] = queue
with_all queue (x ∷ xs) = with_all (with_met queue x) xs

-- whether an edge leads to y from x
abbrev pub leads : Graph → ℕ → ℕ → Bool
leads g y x = is_some (weight_of g x y)

-- keys are the first ones of a list
pub record IsFront (keys whole : List ℕ) : Type 0 where
  pub later : List ℕ
  pub all : keys ++ later ≡ whole

-- each key of the queue but the first has a parent: the first key of the queue from which an edge leads to it, whose
-- place is before its own
pub record IsTree (g : Graph) (queue parents : List ℕ) : Type 0 where
  pub before : (p : ℕ) → 0 < p → p < length queue → slice_index parents p < p
  pub first : (p : ℕ) → 0 < p → p < length queue
      → find (leads g (slice_index queue p)) queue ≡ Some (slice_index queue (slice_index parents p))

-- the keys on the way to a place of the queue by parents, in n steps at most
abbrev pub trail : List ℕ → List ℕ → ℕ → ℕ → List ℕ
trail queue parents zero p = slice_index queue p ∷ []
trail queue parents (suc n) p =
    cond (p == 0) (slice_index queue p ∷ []) (trail queue parents n (slice_index parents p) ++ slice_index queue p ∷ [])
