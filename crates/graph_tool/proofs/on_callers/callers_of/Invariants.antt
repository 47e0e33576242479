use Rattle.std.proofs.Common.{◌≡◌, ℕ, ◌<◌, vec_len, length, get_or}
use Rattle.caller_run.specs.declared.lane.Lane.{Lane}
use Rattle.shared_graph.specs.Callers.{CallerValue, IsCallerOf}
use Rattle.graph_tool.specs.OnCallers.{caller_of, graph_of_lane}
use Rattle.graph_tool.specs.declared.gated.GatedPort.{GatedPort}
use Rattle.graph_tool.proofs.on_callers.callers_of.Given as goal

abbrev pub invariant-loop-lane : goal.invariant-loop-lane
invariant-loop-lane g l = record {
  len : vec_len l.callers ≡ length l.yielded;
  callers : (i : ℕ) (d : CallerValue) (e : Lane (GatedPort g.row.G.Denot)) → i < length l.yielded
      → get_or l.callers.items i d ≡ caller_of (get_or l.yielded i e);
  home : (i : ℕ) (d : CallerValue) (e : Lane (GatedPort g.row.G.Denot)) → i < length l.yielded
      → IsCallerOf (graph_of_lane (get_or l.yielded i e)) (get_or l.callers.items i d);
}
