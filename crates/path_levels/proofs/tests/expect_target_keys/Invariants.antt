use Rattle.std.proofs.Common.{◌≡◌, ℕ, ◌<◌, Some}
use Rattle.scan_record.specs.Scan.{row_at, edge_at}
use Rattle.path_levels.proofs.tests.expect_target_keys.Given as goal

abbrev pub invariant-loop-place : goal.invariant-loop-place
invariant-loop-place g l = (p t : ℕ) → p < l.place → (edge_at l.scan p).target ≡ Some t → (row_at l.scan t).key ≡
    (edge_at l.scan p).key
