use Rattle.std.proofs.Common.{◌+◌, ◌≤◌, length}
use Rattle.graph_kinds.specs.History.{Every}
use Rattle.shared_graph.specs.Reading.{IsOfTable, IsReading, ToldAtRest}
use Rattle.shared_graph.proofs.WaysOfTable.{BucketsRead}
use Rattle.shared_graph.proofs.reading.read_vertices.Given as goal

abbrev pub invariant-loop-bucket : goal.invariant-loop-bucket
invariant-loop-bucket l = record {
  reading : IsReading l.fn.table l.fn.begun.value l.token;
  of_table : Every (IsOfTable l.fn.table.sizes) l.vertices.items;
  room : length l.vertices.items + l.rest ≤ l.fn.left;
  told : ToldAtRest l.fn.begun.value l.fn.token l.token
      (λ journal. BucketsRead l.fn.table l.fn.begun.value l.bucket l.vertices.items l.fn.left l.rest);
}
