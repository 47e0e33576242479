-- A heap before a new row moves up, and before the last row moves down from place 0.
use Rattle.std.proofs.Common.{◌≡◌, ◌≢◌, ℕ, ◌+◌, ◌-◌, ◌<◌, ◌≤◌, List, get_or, length, set, ap, ap₂, ◌∙◌, subst, arith}
use Rattle.std.proofs.Common.{get_or-set_same, get_or-set_other}
use Rattle.scan_record.specs.Scan.{ScanValue, IsScan}
use Rattle.path_costs.specs.Heap.{state_of, cost_at, IsBelow, IsPlaced, IsHeap, IsHeapBut}
use Rattle.path_costs.proofs.HeapOrder.{first_least}
use Rattle.path_costs.proofs.HeapPlaces.{waits, entered_placed, other_row, old_place, taken_placed}

-- with a row at the end
pub entered_heap : (s : ScanValue) → IsScan s → (places row cost : ℕ) → IsHeap s places → row < length s.rows
    → state_of s row ≡ 0
    → IsHeapBut (record s {
      costs = set s.costs row cost;
      slot_zero = set s.slot_zero places row;
      slot_one = set
          s.slot_one row (places + 2);
    }) (places + 1) places
entered_heap s scan places row cost heap h new = record {
  placed = entered_placed s scan places row heap.placed h new (set s.costs row cost);
  others = λ q p lt b nq np.
      let p_in : p < places = omega (arith, lt, np) in
      let q_in : q < places = omega (arith, p_in, b.0) in
      omega (arith, same p p_in, same q q_in, heap.ordered q p p_in b);
  around = λ q p lt a b. absurd (omega (arith, lt, b.0));
}
  where
    same : (p : ℕ) → p < places → get_or (set s.costs row cost)
        (get_or (set s.slot_zero places row) p 0) 0 ≡ get_or s.costs (get_or s.slot_zero p 0) 0
    same p lt =
        let ne = other_row s scan places row heap.placed h new p lt in
        ap (λ (r : ℕ). get_or (set s.costs row cost) r 0) (old_place s scan places row heap.placed h new p lt)
        ∙ get_or-set_other s.costs row (get_or s.slot_zero p 0) cost 0 ne

-- with the last row at place 0, and the first one at the end and settled
pub taken_heap : (s m : ScanValue) → IsScan m → (places row : ℕ) → IsHeap s places → 0 < places → IsPlaced m places
    → m.costs ≡ s.costs → get_or m.slot_zero (places - 1) 0 ≡ row
    → ((p : ℕ) → p ≢ 0 → p ≢ places - 1 → get_or m.slot_zero p 0 ≡ get_or s.slot_zero p 0) → IsHeapBut
    (record m { slot_one = set m.slot_one row 1 }) (places - 1) 0
taken_heap s m scan places row heap some placed costs last others = record {
  placed = taken_placed m scan places row placed some last;
  others = λ q p lt b nq np.
      let q_less : q < places - 1 = omega (arith, lt, b.0) in
      let p_not : p ≢ places - 1 = omega (arith, lt) in
      let q_not : q ≢ places - 1 = omega (arith, q_less) in
      omega (arith, same p np p_not, same q nq q_not, heap.ordered q p (omega (arith, lt)) b);
  around = λ q p lt a b. absurd (omega (arith, a.0));
}
  where
    same : (p : ℕ) → p ≢ 0 → p ≢ places - 1 → cost_at m p ≡ cost_at s p
    same p f g = ap₂ (λ (xs : List ℕ) (r : ℕ). get_or xs r 0) costs (others p f g)

-- with a lower cost of a row, which is no more than that of the rows right below it
pub lowered_below : (s : ScanValue) → IsScan s → (places row cost : ℕ) → IsHeap s places → row < length s.rows
    → state_of s row ≡ 2 → cost ≤ get_or s.costs row 0 → (p : ℕ) → p < places → IsBelow (get_or s.slot_one row 0 - 2) p
    → cost_at (record s { costs = set s.costs row cost }) (get_or s.slot_one row 0 - 2) ≤ cost_at
    (record s { costs = set s.costs row cost }) p
lowered_below s scan places row cost heap h e less p lt b =
    let two = waits s scan row h e in
    let held = heap.placed.held row h two in
    let place : ℕ = get_or s.slot_one row 0 - 2 in
    let other : get_or s.slot_zero p 0 ≢ row = λ f. absurd (omega
    (arith, heap.placed.named p lt, ap (λ (r : ℕ). get_or s.slot_one r 0) f, b.0)) in
    let there : get_or (set s.costs row cost) (get_or s.slot_zero p 0) 0 ≡ cost_at s p = get_or-set_other s.costs row
    (get_or s.slot_zero p 0) cost 0 other in
    let here : get_or (set s.costs row cost) (get_or s.slot_zero place 0) 0 ≡ cost = ap
    (λ (r : ℕ). get_or (set s.costs row cost) r 0) held.1 ∙ get_or-set_same s.costs row cost 0
    (omega (arith, h, scan.costs_of_rows)) in
    omega (arith, here, there, less, heap.ordered place p lt b, ap (λ (r : ℕ). get_or s.costs r 0) held.1)

-- no row that waits costs less than that at place 0
pub first_waits : (s : ScanValue) → IsScan s → (places : ℕ) → IsHeap s places → (r : ℕ) → r < length s.rows
    → state_of s r ≡ 2 → cost_at s 0 ≤ get_or s.costs r 0
first_waits s scan places heap r h e =
    let two = waits s scan r h e in
    let held = heap.placed.held r h two in
    let p : ℕ = get_or s.slot_one r 0 - 2 in
    let least = first_least (cost_at s) places heap.ordered p p (omega arith) (omega (arith, held.0, two)) in
    subst (λ (k : ℕ). cost_at s 0 ≤ get_or s.costs k 0) held.1 least
