use Rattle.std.proofs.Common.{◌≡◌, ◌+◌, ◌<◌, length}
use Rattle.std.specs.List.{All}
use Rattle.scan_record.specs.declared.rows.EdgeRow.{EdgeRow}
use Rattle.scan_record.specs.Scan.{last_edges}
use Rattle.path_costs.proofs.tests.push_edges.Given as goal

abbrev pub invariant-loop-from : goal.invariant-loop-from
invariant-loop-from g l = record {
  nodes : l.scan.nodes ≡ 16;
  rows : length l.scan.rows ≡ length l.fn.scan.rows;
  started : l.scan.started ≡ l.fn.scan.started + 1;
  next : l.scan.next ≡ l.fn.row + 1;
  below : All (λ (e : EdgeRow). e.key < l.least) (last_edges l.scan);
}
