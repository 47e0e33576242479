use Rattle.std.proofs.Common.{◌+◌, ◌≤◌, length}
use Rattle.core_journal.specs.State.{state}
use Rattle.core_kept.specs.Nodes.{IsLinkedVertex}
use Rattle.core_lists.specs.Chains.{edge_chain}
use Rattle.shared_graph.specs.Reading.{IsReading, ToldAtRest, edge_read}
use Rattle.shared_graph.proofs.Ways.{IsOnWay}
use Rattle.shared_graph.proofs.reading.read_list.Given as goal

abbrev pub invariant-loop-rest : goal.invariant-loop-rest
invariant-loop-rest l = record {
  reading : IsReading l.fn.table l.fn.begun.value l.token;
  room : length l.edges.items + l.rest ≤ length l.fn.edges.items + l.fn.left;
  told : ToldAtRest l.fn.begun.value l.fn.token l.token
      (λ journal. IsLinkedVertex l.fn.table.sizes journal l.fn.vertex.index
      → IsOnWay (edge_chain l.fn.table.sizes journal l.fn.vertex.index)
      ((state l.fn.table.sizes journal).edges l.fn.vertex.index)
      (edge_read l.fn.table.sizes journal l.fn.vertex.key) l.fn.edges.items l.edges.items l.word l.fn.left l.rest);
}

abbrev pub decreases-loop-rest : goal.decreases-loop-rest
decreases-loop-rest l = l.rest
