use Rattle.std.proofs.Common.{◌≡◌, ◌-◌}
use Rattle.scan_record.specs.Scan.{row_at}
use Rattle.plain_graph.specs.Collecting.{IsCollected}
use Rattle.plain_graph.proofs.parts.collect.Given as goal

abbrev pub invariant-loop-row : goal.invariant-loop-row
invariant-loop-row l = record {
  collected : IsCollected l.vertices l.numbers l.scan l.row l.row;
  root : (row_at l.scan 0).key ≡ l.root;
}

abbrev pub decreases-loop-row : goal.decreases-loop-row
decreases-loop-row l = 65536 - l.row
