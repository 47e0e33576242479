use Rattle.std.proofs.Common.{◌≢◌, ℕ, ◌<◌}
use Rattle.scan_record.specs.Scan.{row_at}
use Rattle.path_levels.proofs.tests.expect_keys_differ.Given as goal

abbrev pub invariant-loop-row : goal.invariant-loop-row
invariant-loop-row g l = (j k : ℕ) → j < k → k < l.row → (row_at l.scan j).key ≢ (row_at l.scan k).key

abbrev pub invariant-loop-other : goal.invariant-loop-other
invariant-loop-other g l = (j : ℕ) → j < l.other → (row_at l.scan j).key ≢ (row_at l.scan l.row).key
