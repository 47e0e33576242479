-- The heap of the rows that wait: a binary heap by cost, with the place of each row (Williams 1964).
use Rattle.std.specs.Prelude.{◌≡◌, ◌≢◌, ℕ, ◌+◌, ◌-◌, ◌*◌, ◌<◌, ◌≤◌, ◌==◌, List, length, map, min, count_by, slice_index}
use Rattle.scan_record.specs.Scan.{ScanValue}

-- what each row is to the search: 0 not met, 1 settled, 2 waiting. Slot 1 has this, and at a row that waits also its
-- place in the heap: the number there is 2 more than the place
abbrev pub states_of : ScanValue → List ℕ
states_of s = map (λ v. min v 2) s.slot_one

-- what one row is to the search
abbrev pub state_of : ScanValue → ℕ → ℕ
state_of s r = slice_index (states_of s) r

-- how many rows are settled
abbrev pub settled_count : ScanValue → ℕ
settled_count s = count_by (λ v. v == 1) (states_of s)

-- the cost of the row at a place of the heap, whose row slot 0 has
abbrev pub cost_at : ScanValue → ℕ → ℕ
cost_at s p = slice_index s.costs (slice_index s.slot_zero p)

-- the place p is right below the place q: each place q has two below it, 2 * q + 1 and 2 * q + 2
abbrev pub IsBelow : ℕ → ℕ → Type 0
IsBelow q p = (2 * q < p) × (p ≤ 2 * q + 2)

-- the rows that wait stand at the first places, as many as there are, each at the place that slot 1 names
pub record IsPlaced (s : ScanValue) (places : ℕ) : Type 0 where
  pub rows : (p : ℕ) → p < places → slice_index s.slot_zero p < length s.rows
  pub named : (p : ℕ) → p < places → slice_index s.slot_one (slice_index s.slot_zero p) ≡ p + 2
  pub held : (r : ℕ) → r < length s.rows → 2 ≤ slice_index s.slot_one r
      → (slice_index s.slot_one r < places + 2) × (slice_index s.slot_zero (slice_index s.slot_one r - 2) ≡ r)
  pub count : count_by (λ v. v == 2) (states_of s) ≡ places

-- the heap has so many places, and no row costs more than one that stands below it
pub record IsHeap (s : ScanValue) (places : ℕ) : Type 0 where
  pub placed : IsPlaced s places
  pub ordered : (q p : ℕ) → p < places → IsBelow q p → cost_at s q ≤ cost_at s p

-- a heap but for the row at one place, which may cost too much or too little there: no other row costs more than one
-- below it, nor does a row right above that place cost more than one right below it
pub record IsHeapBut (s : ScanValue) (places at : ℕ) : Type 0 where
  pub placed : IsPlaced s places
  pub others : (q p : ℕ) → p < places → IsBelow q p → q ≢ at → p ≢ at → cost_at s q ≤ cost_at s p
  pub around : (q p : ℕ) → p < places → IsBelow q at → IsBelow at p → cost_at s q ≤ cost_at s p
