use Rattle.std.proofs.Common.{ℕ, ◌<◌, get_or}
use Rattle.graph_kinds.specs.declared.call.Row.{Row}
use Rattle.shared_graph.specs.Performing.{IsVertexCall}
use Rattle.graph_tool.proofs.on_callers.are_of_vertices.Given as goal

abbrev pub invariant-loop-row : goal.invariant-loop-row
invariant-loop-row l = record {
  vertices : (k : ℕ) (d : Row) → k < l.row-index → IsVertexCall (get_or l.rows k d).call;
}
