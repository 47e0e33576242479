-- The graph: a finite set of keys, and a finite map from pairs of these keys to weights of at least 1.
use Rattle.std.specs.Prelude.{◌≡◌, ℕ, ◌≤◌, ◌==◌, Bool, true, List, Option, Some, None, cond, filter_map}
use Rattle.std.specs.Prelude.{map as list_map}
use Rattle.std.specs.declared.cmp.Ordering.{Ordering}
use Rattle.std.specs.Ordering.{nat_cmp, then_cmp, on}
use Rattle.std.specs.Coded.{Coded, code_by, coded×, coded_ℕ}
use Rattle.std.specs.Prelude.{refl}
use Rattle.std.specs.FinMap as map
use Rattle.std.specs.FinSet as set

-- pairs in order: by their first key, then by their second
abbrev pub pair_cmp : ℕ × ℕ → ℕ × ℕ → Ordering
pair_cmp = then_cmp (on (λ p. p.0) nat_cmp) (on (λ p. p.1) nat_cmp)

-- which keys there are, and which pairs of keys with which weight; that a pair's ends are keys is `IsGraph`
pub record Graph : Type 0 where
  pub keys : set.FinSet nat_cmp
  pub pairs : map.FinMap pair_cmp ℕ

-- a graph is stored as its two parts
abbrev pub graph_code : Coded Graph
graph_code =
    code_by (set.FinSet nat_cmp × map.FinMap pair_cmp ℕ)
    (coded× (set.code coded_ℕ) (map.code (coded× coded_ℕ coded_ℕ) coded_ℕ))
    (λ g. (g.keys, g.pairs)) (λ p. record { keys = p.0; pairs = p.1 }) (λ _. refl)

-- the graph without keys and pairs
abbrev pub empty_graph : Graph
empty_graph = record { keys = set.empty; pairs = map.empty }

-- the keys, by rising key: as an ordered map has them
abbrev pub sorted_keys : Graph → List ℕ
sorted_keys g = map.keys (map.from_entries {X = Unit {0}} {R = nat_cmp} (list_map (λ k. (k, tt)) (set.items g.keys)))

-- whether k is a key
abbrev pub has : Graph → ℕ → Bool
has g k = set.contains g.keys k

-- the weight of the pair from a to b, if it is a pair
abbrev pub weight_of : Graph → ℕ → ℕ → Option ℕ
weight_of g a b = map.get g.pairs (a, b)

-- how many keys there are
abbrev pub key_count : Graph → ℕ
key_count g = set.len g.keys

-- how many pairs there are
abbrev pub pair_count : Graph → ℕ
pair_count g = map.len g.pairs

-- both ends of each pair are keys, and its weight is at least 1
pub record IsGraph (g : Graph) : Type 0 where
  pub from_key : (a b w : ℕ) → weight_of g a b ≡ Some w → has g a ≡ true
  pub to_key : (a b w : ℕ) → weight_of g a b ≡ Some w → has g b ≡ true
  pub weighed : (a b w : ℕ) → weight_of g a b ≡ Some w → 1 ≤ w

-- the second key of a pair whose first key is x; other pairs have none to tell
abbrev pub neighbour_by : ℕ → (ℕ × ℕ) × ℕ → Option ℕ
neighbour_by x e = cond (e.0.0 == x) (Some e.0.1) None

-- the out-neighbours of x, by rising key: the second keys of the pairs whose first key is x
abbrev pub neighbours : Graph → ℕ → List ℕ
neighbours g x = filter_map (neighbour_by x) (map.entries g.pairs)
