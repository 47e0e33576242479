use Rattle.std.proofs.Common.{◌+◌, ◌≤◌, length, take}
use Rattle.shared_graph.specs.Reading.{IsReading, ToldAtRest}
use Rattle.shared_graph.proofs.WaysOfTable.{AreLinked, ListsRead}
use Rattle.shared_graph.proofs.reading.read_edges.Given as goal

abbrev pub invariant-loop-vertex : goal.invariant-loop-vertex
invariant-loop-vertex l = record {
  reading : IsReading l.fn.table l.fn.begun.value l.token;
  room : length l.edges.items + l.rest ≤ l.fn.left;
  told : ToldAtRest l.fn.begun.value l.fn.token l.token
      (λ journal. AreLinked l.fn.table l.fn.begun.value l.fn.vertices
      → ListsRead l.fn.table l.fn.begun.value (take l.vertex-index l.vertices) l.edges.items l.fn.left l.rest);
}
