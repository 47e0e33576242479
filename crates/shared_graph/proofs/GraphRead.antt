-- The graph that is read is that of the journal, if the front is still that of the beginning.
use Rattle.std.proofs.Common.{◌≡◌, ℕ, ◌+◌, ◌≤◌, List, length, refl, ap, ap₂, ◌∙◌, arith}
use Rattle.std.specs.Prelude.{flat_map}
use Rattle.graph_kinds.specs.Graph.{Graph, empty_graph}
use Rattle.core_journal.specs.declared.event.Event.{Event}
use Rattle.core_journal.specs.GraphOf.{graph_of}
use Rattle.core_journal.proofs.LivesOf.{key_of_life, life_of_key}
use Rattle.core_lists.specs.Chains.{life_in}
use Rattle.core_lists.proofs.GraphOfLives.{graph_is}
use Rattle.graph_table.specs.Tokens.{TableValue, TokenValue}
use Rattle.shared_graph.specs.declared.reading.ReadVertex.{ReadVertex}
use Rattle.shared_graph.specs.declared.reading.ReadEdge.{ReadEdge}
use Rattle.shared_graph.specs.Reading.{IsReading, all_read_edges, all_read_vertices, chain_nodes}
use Rattle.shared_graph.specs.Reading.{list_nodes, vertex_read, with_fitting_edges, with_vertices}
use Rattle.shared_graph.proofs.Puts.{built}
use Rattle.shared_graph.proofs.ReadLives.{edges_there, few_visits, there_edges, there_vertices, vertices_there}
use Rattle.shared_graph.proofs.Rests.{AtRest, read_kept, read_layout}

pub graph_read : (g : TableValue) (begun t u v : TokenValue) (vertices : List ReadVertex) (edges : List ReadEdge)
    (left rest : ℕ) (graph : Graph) → IsReading g begun v
    → AtRest begun t u (length (chain_nodes g.sizes begun.view.front) ≤ left
    → (rest + length (chain_nodes g.sizes begun.view.front) ≡ left)
    × (vertices ≡ flat_map (vertex_read g.sizes begun.view.front)
    (chain_nodes g.sizes begun.view.front)))
    → AtRest begun u v (vertices ≡ all_read_vertices g.sizes begun.view.front
    → length (list_nodes g.sizes begun.view.front vertices) ≤ rest
    → edges ≡ all_read_edges g.sizes begun.view.front) → left ≡ g.sizes.nodes
    → graph ≡ with_fitting_edges (with_vertices empty_graph vertices) edges → v.view.front ≡ begun.view.front
    → graph ≡ graph_of begun.view.front
graph_read g begun t u v vertices edges left rest graph r first second is put still =
    let journal : List Event = begun.view.front in
    let z = read_layout g begun v r in
    let kept = read_kept g begun v r still in
    let few = few_visits g.sizes z journal kept in
    let d = second still in
    let o = (first d.0).1 (omega (arith, few, is)) in
    let all : vertices ≡ all_read_vertices g.sizes journal = o.1 in
    let all_of : edges ≡ all_read_edges g.sizes journal = d.1 all (omega (
      arith,
      few,
      is,
      o.0,
      ap (λ vs. length (list_nodes g.sizes journal vs)) all,
    )) in
    put ∙ (ap₂ (λ vs es. with_fitting_edges (with_vertices empty_graph vs) es) all all_of
    ∙ built (graph_of journal) (graph_is g.sizes z journal kept) (all_read_vertices g.sizes journal)
    (all_read_edges g.sizes journal)
    (λ x h. key_of_life journal (life_in g.sizes journal x.index) x.key
    (vertices_there g.sizes z journal kept x h).key)
    (λ k h.
    let l = life_of_key journal k h in
    (record { index = l.0.index; key = k }, there_vertices g.sizes z journal kept l.0 k l.1, refl))
    (edges_there g.sizes z journal kept) (there_edges g.sizes z journal kept))
