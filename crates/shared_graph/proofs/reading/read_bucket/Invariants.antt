use Rattle.std.proofs.Common.{◌+◌, ◌≤◌, length}
use Rattle.core_journal.specs.State.{state}
use Rattle.graph_kinds.specs.History.{Every}
use Rattle.core_lists.specs.Chains.{bucket_chain}
use Rattle.shared_graph.specs.Reading.{IsOfTable, IsReading, ToldAtRest, vertex_read}
use Rattle.shared_graph.proofs.Ways.{IsOnWay}
use Rattle.shared_graph.proofs.reading.read_bucket.Given as goal

abbrev pub invariant-loop-rest : goal.invariant-loop-rest
invariant-loop-rest l = record {
  reading : IsReading l.fn.table l.fn.begun.value l.token;
  of_table : Every (IsOfTable l.fn.table.sizes) l.vertices.items;
  room : length l.vertices.items + l.rest ≤ length l.fn.vertices.items + l.fn.left;
  told : ToldAtRest l.fn.begun.value l.fn.token l.token
      (λ journal. IsOnWay (bucket_chain l.fn.table.sizes journal l.fn.bucket)
      ((state l.fn.table.sizes journal).bucket l.fn.bucket) (vertex_read l.fn.table.sizes journal)
      l.fn.vertices.items l.vertices.items l.word l.fn.left l.rest);
}

abbrev pub decreases-loop-rest : goal.decreases-loop-rest
decreases-loop-rest l = l.rest
