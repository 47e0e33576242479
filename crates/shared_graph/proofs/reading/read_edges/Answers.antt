use Rattle.std.proofs.Common.{arith, take}
use Rattle.std.proofs.lemmas.List.{take_all}
use Rattle.shared_graph.proofs.WaysOfTable.{last_list, next_list}
use Rattle.shared_graph.proofs.reading.read_edges.Goals as goal

pub loop-vertex-preserved : goal.loop-vertex-preserved
loop-vertex-preserved c = record {
  reading = c.in_ok-rest.ensures.reading;
  room = omega (arith, c.in_ok-rest.ensures.room, c.loop-vertex.invariant.room);
  told = next_list c.args.table.now c.args.begun.now.value c.args.token.now c.loop-vertex.token c.read_list.new.token
      c.args.vertices.now c.loop-vertex.vertex-index _ c.args.left c.loop-vertex.rest c.in_ok-rest.rest
      c.loop-vertex.edges.items c.read_list.new.edges.items c.loop-vertex-test.true c.loop-vertex.invariant.told
      c.in_ok-rest.ensures.told;
}

pub returns-clause-told : goal.returns-clause-told
returns-clause-told c = last_list c.args.table.now c.args.begun.now.value c.args.token.now c.loop-vertex.token
    c.args.vertices.now (take c.loop-vertex.vertex-index c.args.vertices.now) c.args.left c.loop-vertex.rest
    c.loop-vertex.edges.items (take_all _ _ c.loop-vertex-test.false)
    c.loop-vertex.invariant.reading c.loop-vertex.invariant.told
