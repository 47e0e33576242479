use Rattle.std.proofs.Common.{◌≡◌, ℕ, ◌<◌, length}
use Rattle.scan_record.specs.Scan.{row_at}
use Rattle.path_costs.proofs.tests.push_rows.Given as goal

abbrev pub invariant-loop-index : goal.invariant-loop-index
invariant-loop-index l = record {
  nodes : l.scan.nodes ≡ 16;
  rows : length l.scan.rows ≡ l.index;
  started : l.scan.started ≡ l.fn.scan.started;
  next : l.scan.next ≡ l.fn.scan.next;
  indices : (k : ℕ) → k < l.index → (row_at l.scan k).life.index ≡ k;
}
