-- What a reading of the table finds by its words: the vertices on the chains of the buckets, and the edges on their
-- lists. No event is made, so all of it is of one journal if the front is at the end what it was at the beginning.
use Rattle.std.specs.Prelude.{◌≡◌, ℕ, ◌+◌, ◌<◌, ◌≤◌, ◌%◌, ◌^◌, ◌&&◌, ◌==◌, Bool, true, cond, List, [], ◌∷◌}
use Rattle.std.specs.Prelude.{flat_map, length, nat_lt}
use Rattle.std.specs.List.{range_with_len}
use Rattle.graph_kinds.specs.Graph.{Graph, has}
use Rattle.graph_kinds.specs.Answer.{change}
use Rattle.graph_kinds.specs.declared.call.Call.TheVariants.{AddVertex, AddEdge}
use Rattle.packed_link.specs.Link.{index_of, mark_of, tag_of}
use Rattle.packed_link.specs.Layout.{Sizes, key_at, link_at, second_at, third_at}
use Rattle.core_journal.specs.declared.event.Event.{Event}
use Rattle.core_journal.specs.Machine.{word_at}
use Rattle.core_journal.specs.State.{state}
use Rattle.core_stretches.specs.Makes.{Makes}
use Rattle.graph_table.specs.Tokens.{IsOf, TableValue, TokenValue}
use Rattle.shared_graph.specs.declared.reading.ReadVertex.{ReadVertex}
use Rattle.shared_graph.specs.declared.reading.ReadEdge.{ReadEdge}

-- the token is one of the table, and has made nothing since the reading began, when it had a number
pub record IsReading (g : TableValue) (begun now : TokenValue) : Type 0 where
  pub of : IsOf g now
  pub numbered : begun.view.numbered ≡ true
  pub makes : Makes begun.view [] now.view
  pub last : now.view.last ≡ begun.view.last

-- if the front is still that of the beginning, it was so before, and this holds of that journal
abbrev pub ToldAtRest : (begun before now : TokenValue) → (List Event → Type 0) → Type 0
ToldAtRest begun before now P =
    now.view.front ≡ begun.view.front → (before.view.front ≡ begun.view.front) × P begun.view.front

-- if no more nodes are to be visited than may be, all were visited, so many may be still, and this holds
abbrev pub IfRoom : List ℕ → (left rest : ℕ) → Type 0 → Type 0
IfRoom nodes left rest P = length nodes ≤ left → (rest + length nodes ≡ left) × P

-- the lower half of a word, in which a key or a weight stands
abbrev pub low_half : ℕ → ℕ
low_half word = word % 2 ^ 32

-- whether the life that a word names is present by the link of its node: that has the life's tag and no mark
abbrev pub names_present : Sizes → List Event → ℕ → Bool
names_present sizes journal word =
    nat_lt (index_of word) sizes.nodes
    && ((tag_of (word_at sizes journal (link_at sizes (index_of word))) == tag_of word)
    && (mark_of (word_at sizes journal (link_at sizes (index_of word))) == 0))

-- the vertex at a node, if the node's link is unmarked
abbrev pub vertex_read : Sizes → List Event → ℕ → List ReadVertex
vertex_read sizes journal x =
    cond (mark_of (word_at sizes journal (link_at sizes x)) == 0)
    (record { index = x; key = low_half (word_at sizes journal (key_at sizes x)) } ∷ []) []

-- the edge at a node, on the list of a source with a key, if the node's link is unmarked and the target is present
abbrev pub edge_read : Sizes → List Event → (from y : ℕ) → List ReadEdge
edge_read sizes journal from y =
    cond ((mark_of (word_at sizes journal (link_at sizes y)) == 0)
    && names_present sizes journal (word_at sizes journal (second_at sizes y)))
    (record {
      from = from;
      to = low_half (word_at sizes journal (key_at sizes y));
      weight = low_half (word_at sizes journal (third_at sizes y));
    } ∷ []) []

-- the nodes on the chains of all buckets, one chain after another
abbrev pub chain_nodes : Sizes → List Event → List ℕ
chain_nodes sizes journal = flat_map (state sizes journal).bucket (range_with_len 0 sizes.buckets)

-- the nodes on the lists of vertices, one list after another
abbrev pub list_nodes : Sizes → List Event → List ReadVertex → List ℕ
list_nodes sizes journal vertices = flat_map (λ (v : ReadVertex). (state sizes journal).edges v.index) vertices

-- the vertices that are read from the chain of a bucket
abbrev pub bucket_vertices : Sizes → List Event → ℕ → List ReadVertex
bucket_vertices sizes journal bucket = flat_map (vertex_read sizes journal) ((state sizes journal).bucket bucket)

-- the edges that are read from the list of a vertex
abbrev pub edges_of_vertex : Sizes → List Event → ReadVertex → List ReadEdge
edges_of_vertex sizes journal v = flat_map (edge_read sizes journal v.key) ((state sizes journal).edges v.index)

-- the vertices that are read from the chains of all buckets
abbrev pub all_read_vertices : Sizes → List Event → List ReadVertex
all_read_vertices sizes journal = flat_map (vertex_read sizes journal) (chain_nodes sizes journal)

-- the edges that are read from the lists of all these vertices
abbrev pub all_read_edges : Sizes → List Event → List ReadEdge
all_read_edges sizes journal = flat_map (edges_of_vertex sizes journal) (all_read_vertices sizes journal)

-- a vertex that was read is of a node of the table
abbrev pub IsOfTable : Sizes → ReadVertex → Type 0
IsOfTable sizes v = v.index < sizes.nodes

-- a graph with vertices put into it
abbrev pub with_vertices : Graph → List ReadVertex → Graph
with_vertices g [] = g
with_vertices g (v ∷ vs) = with_vertices (change g (AddVertex v.key)) vs

-- whether an edge fits into a graph: both ends are keys, and its weight is at least 1
abbrev pub edge_fits : Graph → ReadEdge → Bool
edge_fits g e = has g e.from && (has g e.to && nat_lt 0 e.weight)

-- a graph with an edge put into it, if that fits
abbrev pub with_fitting_edge : Graph → ReadEdge → Graph
with_fitting_edge g e = cond (edge_fits g e) (change g (AddEdge e.from e.to e.weight)) g

-- a graph with those of the edges put into it that fit
abbrev pub with_fitting_edges : Graph → List ReadEdge → Graph
with_fitting_edges g [] = g
with_fitting_edges g (e ∷ es) = with_fitting_edges (with_fitting_edge g e) es
