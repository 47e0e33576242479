-- The maps of a plain graph, and the graph that they hold.
use Rattle.std.specs.Prelude.{◌≡◌, ℕ, ◌+◌, ◌≤◌, Bool, List, [], ◌∷◌, Option, Some, None, map, flat_map, is_some}
use Rattle.std.specs.Ordering.{nat_cmp}
use Rattle.std.specs.BTreeMap.{BTreeMap, IsOrdered, get, keys, btree_map_len}
use Rattle.std.specs.FinMap as finite_map
use Rattle.std.specs.FinSet as finite_set
use Rattle.graph_kinds.specs.Graph.{Graph, IsGraph, key_count, pair_count}

-- the edges out of a vertex: the weight of each, by the key of its target
abbrev pub Edges : Type 0
Edges = BTreeMap ℕ ℕ

-- the vertices: the edges out of each, by its key
abbrev pub Vertices : Type 0
Vertices = BTreeMap ℕ (BTreeMap ℕ ℕ)

-- the pairs from a vertex, with their weights
abbrev pub pairs_from : ℕ × Edges → List ((ℕ × ℕ) × ℕ)
pairs_from v = map (λ e. ((v.0, e.0), e.1)) v.1.entries

-- all pairs, one vertex after another
abbrev pub pairs_in : Vertices → List ((ℕ × ℕ) × ℕ)
pairs_in m = flat_map pairs_from m.entries

-- the graph that the maps hold
unfoldable pub graph_in_maps : Vertices → Graph
graph_in_maps m = record { keys = finite_set.from_list (keys m); pairs = finite_map.from_entries (pairs_in m) }

-- how many edges maps of edges have
abbrev pub edges_in : List Edges → ℕ
edges_in [] = 0
edges_in (e ∷ es) = btree_map_len e + edges_in es

-- how many edges lead out of a vertex that may not be there
abbrev pub edges_out : Option Edges → ℕ
edges_out None = 0
edges_out (Some edges) = btree_map_len edges

-- whether the maps hold a vertex with this key
abbrev pub holds : Vertices → ℕ → Bool
holds m k = is_some (get nat_cmp m k)

-- the weight of the edge to a key, of a vertex that may not be there
abbrev pub weight_by : Option Edges → ℕ → Option ℕ
weight_by None b = None
weight_by (Some edges) b = get nat_cmp edges b

-- the weight of the edge between two keys, by look-ups
abbrev pub weight_held : Vertices → ℕ → ℕ → Option ℕ
weight_held m a b = weight_by (get nat_cmp m a) b

-- the keys rise strictly in each map
pub record Rises (m : Vertices) : Type 0 where
  pub outer : IsOrdered nat_cmp m
  pub inner : (k : ℕ) (edges : Edges) → get nat_cmp m k ≡ Some edges → IsOrdered nat_cmp edges

-- what the maps of a plain graph and the count beside them keep: keys rise, what the maps hold is a graph with at
-- most 65,536 vertices and edges, and the count is that of its edges
pub record IsCountedGraph (m : Vertices) (edges : ℕ) : Type 0 where
  pub rising : Rises m
  pub sound : IsGraph (graph_in_maps m)
  pub few : key_count (graph_in_maps m) + pair_count (graph_in_maps m) ≤ 65536
  pub counted : edges ≡ pair_count (graph_in_maps m)

-- the index of the maps: each edge the other way round. It may lack a vertex to which no edge leads
pub record IsMirror (m sources : Vertices) : Type 0 where
  pub rising : Rises sources
  pub weights : (a b : ℕ) → weight_held sources b a ≡ weight_held m a b

-- what a plain graph keeps: its maps and its count, and the index beside them
pub record IsIndexedGraph (m sources : Vertices) (edges : ℕ) : Type 0 where
  pub kept : IsCountedGraph m edges
  pub mirror : IsMirror m sources
