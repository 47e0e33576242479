use Rattle.std.proofs.Common.{◌≡◌, ℕ, ◌<◌, vec_len, length, get_or}
use Rattle.caller_run.specs.declared.lane.Lane.{Lane}
use Rattle.shared_graph.specs.Callers.{CallerValue}
use Rattle.graph_tool.specs.OnCallers.{caller_of, graph_of_lane}
use Rattle.graph_tool.specs.declared.gated.GatedPort.{GatedPort}
use Rattle.graph_tool.proofs.on_callers.lanes_of.Given as goal

abbrev pub invariant-loop-caller : goal.invariant-loop-caller
invariant-loop-caller g l = record {
  len : vec_len l.lanes ≡ length l.yielded;
  callers : (i : ℕ) (d : Lane (GatedPort g.row.G.Denot)) (e : CallerValue) → i < length l.yielded
      → caller_of (get_or l.lanes.items i d) ≡ get_or l.yielded i e;
  graph : (i : ℕ) (d : Lane (GatedPort g.row.G.Denot)) → i < length l.yielded
      → graph_of_lane (get_or l.lanes.items i d) ≡ l.graph;
}
