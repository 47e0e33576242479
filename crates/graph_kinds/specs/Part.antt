-- The part of a graph that is reached from a key.
use Rattle.std.specs.Prelude.{◌≡◌, ℕ, true, ◌↔◌, List, Some}
use Rattle.std.specs.List.{concat}
use Rattle.std.specs.FinMap as map
use Rattle.std.specs.FinSet as set
use Rattle.graph_kinds.specs.Graph.{Graph, has, weight_of}
use Rattle.graph_kinds.specs.Path.{IsPath}
use Rattle.graph_kinds.specs.Levels.{stands_in, levels_of}

-- h has the keys to which a path from a leads in g, and the pairs of g whose first key is such a key
pub record IsPart (g : Graph) (a : ℕ) (h : Graph) : Type 0 where
  pub keys : (x : ℕ) → (has h x ≡ true) ↔ ((p : List ℕ) × IsPath g a x p)
  pub pairs : (x y w : ℕ) → (weight_of h x y ≡ Some w) ↔ ((has h x ≡ true) × (weight_of g x y ≡ Some w))

-- the part reached from a: its keys are those of the levels
abbrev pub part : Graph → ℕ → Graph
part g a = record {
  keys = set.from_list (concat (levels_of g a));
  pairs = map.retain_keys g.pairs (λ p. stands_in (concat (levels_of g a)) p.0);
}
