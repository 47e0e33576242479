-- Breadth-first levels, and the path of first parents.
use Rattle.std.specs.Prelude.{◌≡◌, ℕ, zero, suc, ◌+◌, ◌<◌, ◌==◌, Bool, not, cond, List, [], ◌∷◌, ◌++◌, Option, Some}
use Rattle.std.specs.Prelude.{None, is_some, filter, flat_map, find, length, unwrap_or, slice_index, slice_index_or}
use Rattle.std.specs.List.{list_any}
use Rattle.graph_kinds.specs.Graph.{Graph, weight_of, neighbours, key_count}

-- whether x stands in the list
abbrev pub stands_in : List ℕ → ℕ → Bool
stands_in xs x = list_any (λ y. y == x) xs

-- each number of a list once, where it stands first
abbrev pub firsts_of : List ℕ → List ℕ
firsts_of [] = []
firsts_of (x ∷ xs) = x ∷ filter (λ y. not (y == x)) (firsts_of xs)

-- the level behind one: for each of its keys in order the out-neighbours by rising key, without those
-- that stand in a level up to here, each once
abbrev pub level_after : Graph → List ℕ → List ℕ → List ℕ
level_after g known level = firsts_of (filter (λ y. not (stands_in known y)) (flat_map (neighbours g) level))

-- n levels at most from one level on, before the first that is empty; known are the keys of earlier levels
abbrev pub levels_from : Graph → ℕ → List ℕ → List ℕ → List (List ℕ)
levels_from g zero known level = []
levels_from g (suc n) known [] = []
levels_from g (suc n) known (x ∷ xs) =
    (x ∷ xs) ∷ levels_from g n (known ++ x ∷ xs) (level_after g (known ++ x ∷ xs) (x ∷ xs))

-- the levels from a key a: each holds a key at least, so there are no more of them than keys
abbrev pub levels_of : Graph → ℕ → List (List ℕ)
levels_of g a = levels_from g (key_count g) [] (a ∷ [])

-- level i, counted from 0; it is empty behind the last one
abbrev pub level_at : List (List ℕ) → ℕ → List ℕ
level_at levels i = slice_index_or levels i []

-- for each level the number of keys up to its end
abbrev pub level_ends : ℕ → List (List ℕ) → List ℕ
level_ends n [] = []
level_ends n (l ∷ ls) = (n + length l) ∷ level_ends (n + length l) ls

-- the parent of y: the first key of the level before that has an edge to it
abbrev pub parent_in : Graph → ℕ → List ℕ → ℕ
parent_in g y level = unwrap_or (find (λ x. is_some (weight_of g x y)) level) y

-- the keys to y by parents, of the levels before y's, the nearest first
abbrev pub way_back : Graph → List (List ℕ) → ℕ → List ℕ
way_back g [] y = y ∷ []
way_back g (level ∷ earlier) y = way_back g earlier (parent_in g y level) ++ y ∷ []

-- the way to b by parents, if b stands in one of the levels; earlier are those before them, the nearest first
abbrev pub way_in : Graph → List (List ℕ) → List (List ℕ) → ℕ → Option (List ℕ)
way_in g earlier [] b = None
way_in g earlier (level ∷ later) b =
    cond (stands_in level b) (Some (way_back g earlier b)) (way_in g (level ∷ earlier) later b)

-- the path from a key a to b by parents, if a path leads there
abbrev pub reach_path : Graph → ℕ → ℕ → Option (List ℕ)
reach_path g a b = way_in g [] (levels_of g a) b

-- on a path, the key before key i + 1 is its parent: the first key of level i that has an edge to it
abbrev pub GoesByParents : Graph → List (List ℕ) → List ℕ → Type 0
GoesByParents g levels p = (i : ℕ) → i + 1 < length p
    → find (λ x. is_some (weight_of g x (slice_index p (i + 1)))) (level_at levels i) ≡ Some (slice_index p i)
