use Rattle.std.proofs.Common.{◌≡◌, ◌+◌, ◌≤◌, drop}
use Rattle.graph_kinds.specs.Graph.{key_count, pair_count}
use Rattle.shared_graph.specs.Reading.{with_fitting_edges}
use Rattle.shared_graph.proofs.reading.put_edges.Given as goal

abbrev pub invariant-loop-edge : goal.invariant-loop-edge
invariant-loop-edge l = record {
  put : with_fitting_edges l.graph (drop l.edge-index l.edges) ≡ with_fitting_edges l.fn.graph l.edges;
  room : key_count l.graph + pair_count l.graph ≤ key_count l.fn.graph + pair_count l.fn.graph + l.edge-index;
}
