-- Paths, and the least cost of them.
use Rattle.std.specs.Prelude.{◌≡◌, ℕ, zero, suc, ◌+◌, ◌≤◌, ◌==◌, Bool, true, false, cond, List, [], ◌∷◌, ◌++◌, Option}
use Rattle.std.specs.Prelude.{Some, None, is_some, map, filter, flat_map, length, min, unwrap_or}
use Rattle.std.specs.FinSet as set
use Rattle.graph_kinds.specs.Graph.{Graph, has, weight_of, neighbours, key_count}

-- a path from a to b: a list of keys from a to b whose neighbouring keys are pairs of the graph
abbrev pub IsPath : Graph → ℕ → ℕ → List ℕ → Type 0
IsPath g a b [] = ⊥
IsPath g a b (x ∷ []) = (x ≡ a) × (x ≡ b) × (has g x ≡ true)
IsPath g a b (x ∷ y ∷ p) = (x ≡ a) × (is_some (weight_of g x y) ≡ true) × IsPath g y b (y ∷ p)

-- the cost of a path: the sum of the weights of its neighbouring pairs
abbrev pub cost_of : Graph → List ℕ → ℕ
cost_of g [] = 0
cost_of g (x ∷ []) = 0
cost_of g (x ∷ y ∷ p) = unwrap_or (weight_of g x y) 0 + cost_of g (y ∷ p)

-- a path of n pairs leads from a to b, and none of fewer pairs does
pub record IsDistance (g : Graph) (a b n : ℕ) : Type 0 where
  pub path : List ℕ
  pub is_path : IsPath g a b path
  pub pairs : length path ≡ n + 1
  pub fewest : (p : List ℕ) → IsPath g a b p → n + 1 ≤ length p

-- c is the least cost of a path from a to b
pub record IsLeastCost (g : Graph) (a b c : ℕ) : Type 0 where
  pub path : List ℕ
  pub is_path : IsPath g a b path
  pub cost : cost_of g path ≡ c
  pub least : (p : List ℕ) → IsPath g a b p → c ≤ cost_of g p

-- all paths of n pairs from a key a
abbrev pub paths_of : Graph → ℕ → ℕ → List (List ℕ)
paths_of g zero a = (a ∷ []) ∷ []
paths_of g (suc n) a = flat_map (λ y. map (λ p. a ∷ p) (paths_of g n y)) (neighbours g a)

-- all paths of fewer than n pairs from a key a
abbrev pub short_paths : Graph → ℕ → ℕ → List (List ℕ)
short_paths g zero a = []
short_paths g (suc n) a = short_paths g n a ++ paths_of g n a

-- the last key of a path is b
abbrev pub ends_with : ℕ → List ℕ → Bool
ends_with b [] = false
ends_with b (x ∷ []) = x == b
ends_with b (x ∷ y ∷ p) = ends_with b (y ∷ p)

-- the least number of a list, if it has one
abbrev pub least : List ℕ → Option ℕ
least [] = None
least (x ∷ xs) = Some (min x (unwrap_or (least xs) x))

-- the least cost of all paths from a key a to b with fewer pairs than the graph has keys: a path with more
-- pairs meets a key twice, and costs more than the path without that round
abbrev pub least_cost : Graph → ℕ → ℕ → Option ℕ
least_cost g a b = least (map (cost_of g) (filter (ends_with b) (short_paths g (key_count g) a)))

-- of the least cost of x, the weight of the pair from x to y and the least cost of y: there are all three, and the
-- first two make the third
abbrev pub reaches_by : Option ℕ → Option ℕ → Option ℕ → Bool
reaches_by (Some c) (Some w) (Some d) = c + w == d
reaches_by _ _ _ = false

-- whether x stands before y on a cheapest path from a
abbrev pub is_before : Graph → ℕ → ℕ → ℕ → Bool
is_before g a y x = reaches_by (least_cost g a x) (weight_of g x y) (least_cost g a y)

-- the least key that stands before y on a cheapest path from a, if there is one
abbrev pub key_before : Graph → ℕ → ℕ → Option ℕ
key_before g a y = least (filter (is_before g a y) (set.items g.keys))

-- y behind the way back to the key before it, if there is one
abbrev pub behind_before : (ℕ → List ℕ) → ℕ → Option ℕ → List ℕ
behind_before back y None = y ∷ []
behind_before back y (Some x) = back x ++ y ∷ []

-- the cheapest path from a key a to y, found backwards: the key before y, the key before that one, until a; in n
-- turns at most
abbrev pub cheapest_back : Graph → ℕ → ℕ → ℕ → List ℕ
cheapest_back g a zero y = y ∷ []
cheapest_back g a (suc n) y = cond (y == a) (y ∷ []) (behind_before (cheapest_back g a n) y (key_before g a y))

-- the cheapest path from a key a to b: the costs fall on the way back, so no key is met twice and the turns are
-- enough
abbrev pub cheapest_path : Graph → ℕ → ℕ → List ℕ
cheapest_path g a b = cheapest_back g a (key_count g) b

-- a cheapest way to y leads over the pair from x: its weight and the least cost of x make the least cost of y
pub record LeadsOver (g : Graph) (a x y : ℕ) : Type 0 where
  pub cost : ℕ
  pub weight : ℕ
  pub to_x : least_cost g a x ≡ Some cost
  pub pair : weight_of g x y ≡ Some weight
  pub to_y : least_cost g a y ≡ Some (cost + weight)

-- x is the least key over which a cheapest way to y leads
pub record IsKeyBefore (g : Graph) (a x y : ℕ) : Type 0 where
  pub leads : LeadsOver g a x y
  pub least : (z : ℕ) → LeadsOver g a z y → x ≤ z

-- each key of a path but the first comes behind the least key over which a cheapest way leads to it
abbrev pub GoesByLeastKeys : Graph → ℕ → List ℕ → Type 0
GoesByLeastKeys g a [] = Unit {0}
GoesByLeastKeys g a (x ∷ []) = Unit {0}
GoesByLeastKeys g a (x ∷ y ∷ p) = IsKeyBefore g a x y × GoesByLeastKeys g a (y ∷ p)
