-- A search in breadth over a scan: what its work room holds, and what a call leaves as it was.
use Rattle.std.specs.Prelude.{◌≡◌, ℕ, ◌<◌, true, cond, [], ◌∷◌, ◌++◌, length, slice_index, slice_set, nat_eq}
use Rattle.std.specs.List.{IsDistinct}
use Rattle.graph_kinds.specs.Levels.{stands_in}
use Rattle.scan_record.specs.Asked.{KeepsRows}
use Rattle.scan_record.specs.Scan.{ScanValue, row_at}
use Rattle.scan_record.specs.ScanGraph.{graph_of_scan}
use Rattle.path_levels.specs.Queue.{leads, IsTree}

-- no row, edge or cost is changed: only the answer region and the numbers of the work room are written
pub record KeepsRowsAndCosts (old new : ScanValue) : Type 0 where
  pub rows : KeepsRows old new
  pub costs : new.costs ≡ old.costs

-- the scan with a row at the end of the queue
abbrev pub with_row : ScanValue → ℕ → ℕ → ScanValue
with_row s row parent = record s {
  keys = s.keys ++ (row_at s row).key ∷ [];
  slot_zero = slice_set s.slot_zero (length s.keys) row;
  slot_one = slice_set s.slot_one (length s.keys) parent;
  slot_two = slice_set s.slot_two row 1;
}

-- the answer's keys are the queue, and each stands there once. Slot 0 has, at a place of the queue, the row of its key;
-- slot 1, at a place, the place of its parent; slot 2, at a row, 1 where the row's key was met and else 0. Where an
-- edge leads from a key at one of the first places, as many as are done, that key was met
pub record IsQueue (s : ScanValue) (done : ℕ) : Type 0 where
  pub once : IsDistinct nat_eq s.keys
  pub rows : (p : ℕ) → p < length s.keys → slice_index s.slot_zero p < length s.rows
  pub keys : (p : ℕ) → p < length s.keys → (row_at s (slice_index s.slot_zero p)).key ≡ slice_index s.keys p
  pub parents : IsTree (graph_of_scan s) s.keys s.slot_one
  pub met : (k : ℕ) → k < length s.rows → slice_index s.slot_two k ≡ cond (stands_in s.keys (row_at s k).key) 1 0
  pub closed : (p y : ℕ) → p < done → p < length s.keys → leads (graph_of_scan s) y (slice_index s.keys p) ≡ true
      → stands_in s.keys y ≡ true
