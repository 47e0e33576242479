use Rattle.std.proofs.Common.{arith}
use Rattle.shared_graph.proofs.Puts.{vertex_put, vertex_room}
use Rattle.shared_graph.proofs.reading.put_vertices.Goals as goal

pub loop-vertex-preserved : goal.loop-vertex-preserved
loop-vertex-preserved c = record {
  put = vertex_put c.loop-vertex.graph c.put_vertex.new.self c.args.graph.now c.args.vertices.now
      c.loop-vertex.vertex-index _ c.loop-vertex-test.true c.in_ok-put_vertex.ensures.ok c.loop-vertex.invariant.put;
  room = omega (
    arith,
    vertex_room c.loop-vertex.graph c.put_vertex.new.self _ c.in_ok-put_vertex.ensures.ok,
    c.loop-vertex.invariant.room,
  );
}
