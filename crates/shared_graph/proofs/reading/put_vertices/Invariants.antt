use Rattle.std.proofs.Common.{◌≡◌, ◌+◌, ◌≤◌, drop}
use Rattle.graph_kinds.specs.Graph.{key_count, pair_count}
use Rattle.shared_graph.specs.Reading.{with_vertices}
use Rattle.shared_graph.proofs.reading.put_vertices.Given as goal

abbrev pub invariant-loop-vertex : goal.invariant-loop-vertex
invariant-loop-vertex l = record {
  put : with_vertices l.graph (drop l.vertex-index l.vertices) ≡ with_vertices l.fn.graph l.vertices;
  room : key_count l.graph + pair_count l.graph ≤ key_count l.fn.graph + pair_count l.fn.graph + l.vertex-index;
}
