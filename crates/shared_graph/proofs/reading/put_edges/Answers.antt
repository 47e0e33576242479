use Rattle.std.proofs.Common.{arith}
use Rattle.shared_graph.proofs.Puts.{edge_put, edge_room}
use Rattle.shared_graph.proofs.reading.put_edges.Goals as goal

pub loop-edge-preserved : goal.loop-edge-preserved
loop-edge-preserved c = record {
  put = edge_put c.loop-edge.graph c.put_fitting.new.graph c.args.graph.now c.args.edges.now c.loop-edge.edge-index _
      c.loop-edge-test.true c.in_ok-put_fitting.ensures.put c.loop-edge.invariant.put;
  room = omega (
    arith,
    edge_room c.loop-edge.graph c.put_fitting.new.graph _ c.in_ok-put_fitting.ensures.put,
    c.loop-edge.invariant.room,
  );
}
