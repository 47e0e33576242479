use Rattle.std.proofs.Common.{◌≡◌, length}
use Rattle.path_levels.proofs.tests.scan_of.Given as goal

abbrev pub invariant-loop-row : goal.invariant-loop-row
invariant-loop-row g l = record {
  nodes : l.scan.nodes ≡ 16;
  rows : length l.scan.rows ≡ length l.initial.scan.rows;
  started : l.scan.started ≡ l.row;
  next : l.scan.next ≡ l.row;
}
