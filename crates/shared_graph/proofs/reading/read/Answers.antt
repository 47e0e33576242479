use Rattle.std.proofs.Common.{arith, ap, ap₂, sym, ◌∙◌, ◌≡◌, ◌≤◌, length, List, subst}
use Rattle.graph_kinds.specs.Graph.{empty_graph}
use Rattle.packed_link.specs.Layout.{Sizes}
use Rattle.core_journal.specs.GraphOf.{graph_of}
use Rattle.graph_table.specs.Tokens.{TokenValue}
use Rattle.shared_graph.specs.Reading.{ToldAtRest, all_read_edges, all_read_vertices, list_nodes}
use Rattle.shared_graph.specs.Reading.{with_fitting_edges, with_vertices}
use Rattle.shared_graph.specs.declared.reading.ReadVertex.{ReadVertex}
use Rattle.shared_graph.specs.declared.reading.ReadEdge.{ReadEdge}
use Rattle.shared_graph.proofs.GraphRead.{graph_read}
use Rattle.shared_graph.proofs.Puts.{empty_size}
use Rattle.shared_graph.proofs.Rests.{reading_begins}
use Rattle.shared_graph.proofs.reading.read.Goals as goal

pub read_vertices-requires-clause-reading : goal.read_vertices-requires-clause-reading
read_vertices-requires-clause-reading c = reading_begins c.args.table.now c.args.token.now c.of-begun.result.value
    c.requires.table c.requires.number c.of-begun.ensures

pub put_vertices-requires : goal.put_vertices-requires
put_vertices-requires c = record {
  room = omega (
    arith,
    empty_size c.new-graph.result c.new-graph.ensures,
    ap (λ (vs : List ReadVertex). length vs) c.deref-2.ensures.value,
    c.in_ok-left.ensures.room,
    c.nodes-nodes.ensures.nodes,
    c.nodes-nodes.ensures.limits.few_nodes,
  );
}

pub put_edges-requires : goal.put_edges-requires
put_edges-requires c = record {
  room = omega (
    arith,
    empty_size c.new-graph.result c.new-graph.ensures,
    ap (λ (vs : List ReadVertex). length vs) c.deref-2.ensures.value,
    ap (λ (es : List ReadEdge). length es) c.deref-3.ensures.value,
    c.in_ok-left.ensures.room,
    c.in_ok-read_edges.ensures.room,
    c.in_ok-put_vertices.ensures.room,
    c.nodes-nodes.ensures.nodes,
    c.nodes-nodes.ensures.limits.few_nodes,
  );
}

pub returns-clause-graph : goal.returns-clause-graph
returns-clause-graph c still =
    let t : TokenValue = c.args.token.now in
    let begun : TokenValue = c.of-begun.result.value in
    let same : begun ≡ t = c.of-begun.ensures in
    let vertices : List ReadVertex = c.read_vertices.new.vertices.items in
    let edges : List ReadEdge = c.read_edges.new.edges.items in
    let put : c.put_edges.new.graph ≡ with_fitting_edges (with_vertices empty_graph vertices) edges =
    c.in_ok-put_edges.ensures.put ∙ ap₂ with_fitting_edges (c.in_ok-put_vertices.ensures.put ∙ ap₂ with_vertices
    c.new-graph.ensures c.deref-2.ensures.value) c.deref-3.ensures.value in
    graph_read c.args.table.now begun t c.read_vertices.new.token c.read_edges.new.token vertices edges
    c.nodes-nodes.result c.in_ok-left.left c.put_edges.new.graph c.in_ok-read_edges.ensures.reading
    c.in_ok-left.ensures.told
    (subst (λ vs. ToldAtRest begun c.read_vertices.new.token c.read_edges.new.token
    (λ journal. vs ≡ all_read_vertices c.args.table.now.sizes journal
    → length (list_nodes c.args.table.now.sizes journal vs) ≤ c.in_ok-left.left
    → edges ≡ all_read_edges c.args.table.now.sizes journal)) c.deref.ensures.value
    c.in_ok-read_edges.ensures.told)
    (c.nodes-nodes.ensures.nodes ∙ ap (λ (z : Sizes). z.nodes) c.layout.ensures.sizes) put
    (still ∙ ap (λ (b : TokenValue). b.view.front) (sym same))
    ∙ ap (λ (b : TokenValue). graph_of b.view.front) same
