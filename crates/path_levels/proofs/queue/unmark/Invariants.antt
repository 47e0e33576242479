use Rattle.std.proofs.Common.{◌≡◌, ℕ, ◌<◌, length, get_or}
use Rattle.path_levels.specs.Search.{KeepsRowsAndCosts}
use Rattle.path_levels.proofs.queue.unmark.Given as goal

abbrev pub invariant-loop-row : goal.invariant-loop-row
invariant-loop-row l = record {
  kept : KeepsRowsAndCosts l.fn.scan l.scan;
  keys : l.scan.keys ≡ l.fn.scan.keys;
  ends : l.scan.ends ≡ l.fn.scan.ends;
  long : length l.scan.slot_two ≡ length l.fn.scan.rows;
  unmarked : (k : ℕ) → k < l.row → get_or l.scan.slot_two k 0 ≡ 0;
}
