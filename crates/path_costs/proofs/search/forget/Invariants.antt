use Rattle.std.proofs.Common.{◌≡◌, ℕ, ◌<◌, length, get_or}
use Rattle.scan_record.specs.Asked.{KeepsRows}
use Rattle.path_costs.proofs.search.forget.Given as goal

abbrev pub invariant-loop-row : goal.invariant-loop-row
invariant-loop-row l = record {
  kept : KeepsRows l.fn.scan l.scan;
  long : length l.scan.slot_one ≡ length l.fn.scan.rows;
  not_met : (k : ℕ) → k < l.row → get_or l.scan.slot_one k 0 ≡ 0;
}
