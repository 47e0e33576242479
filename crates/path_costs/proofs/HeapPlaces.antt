-- The places of a heap: after two rows are swapped, one is put at the end, or the last one is taken away.
use Rattle.std.proofs.Common.{◌≡◌, ◌≢◌, ℕ, ◌+◌, ◌-◌, ◌<◌, ◌≤◌, ◌==◌, Bool, true, false, cond, min, inl, inr, List}
use Rattle.std.proofs.Common.{length, map, get_or, set, refl, sym, ap, ◌∙◌, subst, arith, get_or-set_same}
use Rattle.std.proofs.Common.{get_or-set_other, length-set}
use Rattle.std.specs.Prelude.{count_by}
use Rattle.std.proofs.Math.Seq.{map-set_same}
use Rattle.std.proofs.lemmas.Bool.{cases_eq}
use Rattle.std.proofs.lemmas.List.{length-map, map-set, get_or-map}
use Rattle.std.proofs.lemmas.List.Sums.{count_by-le-length, sum_by-set}
use Rattle.scan_record.specs.Scan.{ScanValue, IsScan}
use Rattle.path_costs.specs.Heap.{states_of, state_of, IsPlaced}

-- a test as a number
abbrev pub one_if : Bool → ℕ
one_if b = cond b 1 0

-- how many pass after one item is another
pub count_by-set : (p : ℕ → Bool) (xs : List ℕ) (i v : ℕ) → i < length xs → count_by p (set xs i v) + one_if
    (p (get_or xs i 0)) ≡ count_by p xs + one_if (p v)
count_by-set p xs i v h = sum_by-set (λ x. one_if (p x)) xs i v 0 h

-- where one fails not all pass
pub count_by_less : (p : ℕ → Bool) (xs : List ℕ) (i : ℕ) → i < length xs → p (get_or xs i 0) ≡ false → (v : ℕ)
    → p v ≡ true → count_by p xs < length xs
count_by_less p xs i h fails v passes =
    let one = count_by-set p xs i v h in
    let all = count_by-le-length p (set xs i v) in
    let gone : one_if (p (get_or xs i 0)) ≡ 0 = ap one_if fails in
    let more : one_if (p v) ≡ 1 = ap one_if passes in
    omega (arith, one, all, gone, more, length-set xs i v)

pub length-states_of : (s : ScanValue) → IsScan s → length (states_of s) ≡ length s.rows
length-states_of s scan = length-map s.slot_one (λ v. min v 2) ∙ scan.slot_one_of_rows

-- the state of a row, by the number in slot 1
pub state_at : (s : ScanValue) → IsScan s → (r : ℕ) → r < length s.rows → state_of s r ≡ min (get_or s.slot_one r 0) 2
state_at s scan r h = get_or-map (λ v. min v 2) s.slot_one r 0 0 (omega (arith, scan.slot_one_of_rows))

pub places_few : (s : ScanValue) → IsScan s → (places : ℕ) → IsPlaced s places → places ≤ length s.rows
places_few s scan places placed = omega (
  arith,
  placed.count,
  count_by-le-length (λ v. v == 2)
      (states_of s),
  length-states_of s scan,
)

module _ (s : ScanValue) (scan : IsScan s) (places first second up down : ℕ) (placed : IsPlaced s places)
    (a : first < places) (b : second < places)
    (at_up : up ≡ get_or s.slot_zero first 0) (at_down : down ≡ get_or s.slot_zero second 0) where
  abbrev pub swapped : ScanValue
  swapped = record s {
    slot_zero = set (set s.slot_zero first down) second up;
    slot_one = set
        (set s.slot_one down (first + 2)) up (second + 2);
  }

  few : places ≤ length s.rows
  few = places_few s scan places placed

  up_row : up < length s.rows
  up_row = rw at_up (placed.rows first a)

  down_row : down < length s.rows
  down_row = rw at_down (placed.rows second b)

  up_named : get_or s.slot_one up 0 ≡ first + 2
  up_named = ap (λ (r : ℕ). get_or s.slot_one r 0) at_up ∙ placed.named first a

  down_named : get_or s.slot_one down 0 ≡ second + 2
  down_named = ap (λ (r : ℕ). get_or s.slot_one r 0) at_down ∙ placed.named second b

  -- the row at each place, and the number at each row
  zero_second : get_or (set (set s.slot_zero first down) second up) second 0 ≡ up
  zero_second = get_or-set_same (set s.slot_zero first down) second up 0
      (omega (arith, few, scan.slot_zero_of_rows, length-set s.slot_zero first down))

  zero_first : first ≢ second → get_or (set (set s.slot_zero first down) second up) first 0 ≡ down
  zero_first ne = get_or-set_other (set s.slot_zero first down) second first up 0 ne
      ∙ get_or-set_same s.slot_zero first down 0 (omega (arith, few, scan.slot_zero_of_rows))

  zero_other : (p : ℕ) → p ≢ first → p ≢ second → get_or (set (set s.slot_zero first down) second up) p 0 ≡ get_or
      s.slot_zero p 0
  zero_other p f g = get_or-set_other (set s.slot_zero first down) second p up 0 g
      ∙ get_or-set_other s.slot_zero first p down 0 f

  one_up : get_or (set (set s.slot_one down (first + 2)) up (second + 2)) up 0 ≡ second + 2
  one_up = get_or-set_same (set s.slot_one down (first + 2)) up (second + 2) 0
      (omega (arith, up_row, scan.slot_one_of_rows, length-set s.slot_one down (first + 2)))

  one_down : down ≢ up → get_or (set (set s.slot_one down (first + 2)) up (second + 2)) down 0 ≡ first + 2
  one_down ne = get_or-set_other (set s.slot_one down (first + 2)) up down (second + 2) 0 ne
      ∙ get_or-set_same s.slot_one down (first + 2) 0 (omega (arith, down_row, scan.slot_one_of_rows))

  one_other : (r : ℕ) → r ≢ down → r ≢ up → get_or (set (set s.slot_one down (first + 2)) up (second + 2)) r 0 ≡ get_or
      s.slot_one r 0
  one_other r f g = get_or-set_other (set s.slot_one down (first + 2)) up r (second + 2) 0 g
      ∙ get_or-set_other s.slot_one down r (first + 2) 0 f

  apart : first ≢ second → down ≢ up
  apart ne e = ne (omega (arith, up_named, down_named, ap (λ (r : ℕ). get_or s.slot_one r 0) e))

  together : first ≡ second → down ≡ up
  together e = at_down ∙ (ap (λ (p : ℕ). get_or s.slot_zero p 0) (sym e) ∙ sym at_up)

  swapped_rows : (p : ℕ) → p < places → get_or (set (set s.slot_zero first down) second up) p 0 < length s.rows
  swapped_rows p lt = elim (cases_eq p second) as (λ _. get_or
      (set (set s.slot_zero first down) second up) p 0 < length s.rows) [
        | inl e ↦ rw (e, zero_second) up_row
        | inr ne ↦ elim (cases_eq p first) as
            (λ _. get_or (set (set s.slot_zero first down) second up) p 0 < length s.rows) [
              | inl f ↦ let g : first ≢ second = λ h. ne (f ∙ h) in rw (f, zero_first g) down_row
              | inr g ↦ rw (zero_other p g ne) (placed.rows p lt)
            ]
      ]

  swapped_named : (p : ℕ) → p < places → get_or (set (set s.slot_one down (first + 2)) up (second + 2))
      (get_or (set (set s.slot_zero first down) second up) p 0) 0 ≡ p + 2
  swapped_named p lt = elim (cases_eq p second) as (λ _. get_or (set (set s.slot_one down (first + 2)) up (second + 2))
      (get_or (set (set s.slot_zero first down) second up) p 0) 0 ≡ p + 2) [
        | inl e ↦ ap (λ (r : ℕ). get_or (set (set s.slot_one down (first + 2)) up (second + 2)) r 0)
            (ap (λ (q : ℕ). get_or (set (set s.slot_zero first down) second up) q 0) e ∙ zero_second) ∙
            (one_up ∙ ap (λ (q : ℕ). q + 2) (sym e))
        | inr ne ↦ elim (cases_eq p first) as (λ _. get_or (set (set s.slot_one down (first + 2)) up (second + 2))
            (get_or (set (set s.slot_zero first down) second up) p 0) 0 ≡ p + 2) [
              | inl f ↦
                  let g : first ≢ second = λ h. ne (f ∙ h) in
                  ap (λ (r : ℕ). get_or (set (set s.slot_one down (first + 2)) up (second + 2)) r 0)
                  (ap (λ (q : ℕ). get_or (set (set s.slot_zero first down) second up) q 0) f ∙ zero_first g) ∙
                  (one_down (apart g) ∙ ap (λ (q : ℕ). q + 2) (sym f))
              | inr g ↦
                  let named = placed.named p lt in
                  let r : ℕ = get_or s.slot_zero p 0 in
                  let not_up : r ≢ up =
                  λ e. g (omega (arith, named, up_named, ap (λ (k : ℕ). get_or s.slot_one k 0) e)) in
                  let not_down : r ≢ down =
                  λ e. ne (omega (arith, named, down_named, ap (λ (k : ℕ). get_or s.slot_one k 0) e))
                  in
                  ap (λ (k : ℕ). get_or (set (set s.slot_one down (first + 2)) up (second + 2)) k 0)
                  (zero_other p g ne) ∙
                  (one_other r not_down not_up ∙ named)
            ]
      ]

  -- a row that waits is at the place that is named
  abbrev Held : ℕ → ℕ → Type 0
  Held r v = (v < places + 2) × (get_or (set (set s.slot_zero first down) second up) (v - 2) 0 ≡ r)

  swapped_held : (r : ℕ) → r < length s.rows → 2 ≤ get_or (set (set s.slot_one down (first + 2)) up (second + 2)) r 0
      → Held r (get_or (set (set s.slot_one down (first + 2)) up (second + 2)) r 0)
  swapped_held r h some = elim (cases_eq r up) as (λ _. Held r
      (get_or (set (set s.slot_one down (first + 2)) up (second + 2)) r 0)) [
        | inl e ↦
            let v : get_or (set (set s.slot_one down (first + 2)) up (second + 2)) r 0 ≡ second + 2 = ap
            (λ (k : ℕ). get_or (set (set s.slot_one down (first + 2)) up (second + 2)) k 0) e ∙ one_up in
            let q : second + 2 - 2 ≡ second = omega arith in
            subst (Held r) (sym v) (
              omega (arith, b),
              ap (λ (k : ℕ). get_or
                  (set (set s.slot_zero first down) second up) k 0) q ∙ (zero_second ∙ sym e),
            )
        | inr ne ↦ elim (cases_eq r down) as (λ _. Held r (get_or
            (set (set s.slot_one down (first + 2)) up (second + 2)) r 0)) [
              | inl f ↦
                  let g : down ≢ up = λ e. ne (f ∙ e) in
                  let v : get_or (set (set s.slot_one down (first + 2)) up (second + 2)) r 0 ≡ first + 2 = ap
                  (λ (k : ℕ). get_or (set (set s.slot_one down (first + 2)) up (second + 2)) k 0) f ∙ one_down g in
                  let q : first + 2 - 2 ≡ first = omega arith in
                  subst (Held r) (sym v) (
                    omega (arith, a),
                    ap (λ (k : ℕ). get_or
                        (set (set s.slot_zero first down) second up) k 0) q ∙
                        (zero_first (λ e. g (together e)) ∙ sym f),
                  )
              | inr g ↦
                  let same : get_or (set (set s.slot_one down (first + 2)) up (second + 2)) r 0
                  ≡ get_or s.slot_one r 0 =
                  one_other r g ne in
                  let held = placed.held r h (subst (λ (v : ℕ). 2 ≤ v) same some) in
                  let p : ℕ = get_or s.slot_one r 0 - 2 in
                  let not_first : p ≢ first = λ e. ne (sym held.1 ∙
                  (ap (λ (q : ℕ). get_or s.slot_zero q 0) e ∙ sym at_up)) in
                  let not_second : p ≢ second = λ e. g (sym held.1 ∙
                  (ap (λ (q : ℕ). get_or s.slot_zero q 0) e ∙ sym at_down))
                  in
                  subst (Held r) (sym same) (held.0, zero_other p not_first not_second ∙ held.1)
            ]
      ]

  -- both rows wait before and after
  pub swapped_states : map (λ v. min v 2) (set (set s.slot_one down (first + 2)) up (second + 2)) ≡ map
      (λ v. min v 2) s.slot_one
  swapped_states =
      let two : (n : ℕ) → min (n + 2) 2 ≡ 2 = λ n. omega arith in
      let one : map (λ v. min v 2) (set s.slot_one down (first + 2)) ≡ map (λ v. min v 2) s.slot_one = map-set_same
      (λ v. min v 2) s.slot_one down (first + 2) 0 (two first ∙
      (sym (two second) ∙ ap (λ (v : ℕ). min v 2) (sym down_named))) in
      let still : min (get_or (set s.slot_one down (first + 2)) up 0) 2 ≡ 2 = elim (cases_eq up down) as
      (λ _. min (get_or (set s.slot_one down (first + 2)) up 0) 2 ≡ 2) [
        | inl e ↦ ap (λ (r : ℕ). min (get_or (set s.slot_one down (first + 2)) r 0) 2) e ∙
            (ap (λ (v : ℕ). min v 2) (get_or-set_same s.slot_one down (first + 2) 0
            (omega (arith, down_row, scan.slot_one_of_rows))) ∙ two first)
        | inr ne ↦ ap (λ (v : ℕ). min v 2) (get_or-set_other s.slot_one down up (first + 2) 0 ne ∙ up_named) ∙ two first
      ] in
      map-set_same (λ v. min v 2) (set s.slot_one down (first + 2)) up (second + 2) 0 (two second ∙ sym still) ∙ one

  pub swapped_placed : IsPlaced (record s {
    slot_zero = set (set s.slot_zero first down) second up;
    slot_one = set
        (set s.slot_one down (first + 2)) up (second + 2);
  }) places
  swapped_placed = record {
    rows = swapped_rows;
    named = swapped_named;
    held = swapped_held;
    count = ap (λ (xs : List ℕ). count_by (λ v. v == 2) xs) swapped_states ∙ placed.count;
  }

-- what the state of a row says of the number in slot 1
pub waits : (s : ScanValue) → IsScan s → (r : ℕ) → r < length s.rows → state_of s r ≡ 2 → 2 ≤ get_or s.slot_one r 0
waits s scan r h e = omega (arith, state_at s scan r h, e)

pub unmet : (s : ScanValue) → IsScan s → (r : ℕ) → r < length s.rows → state_of s r ≡ 0 → get_or s.slot_one r 0 ≡ 0
unmet s scan r h e = omega (arith, state_at s scan r h, e)

-- there is a place left for a row that wasn't met
pub places_left : (s : ScanValue) → IsScan s → (places row : ℕ) → IsPlaced s places → row < length s.rows
    → state_of s row ≡ 0 → places < length s.rows
places_left s scan places row placed h new =
    let fails : (state_of s row == 2) ≡ false = ap (λ (v : ℕ). v == 2) new in
    let less = count_by_less (λ v. v == 2) (states_of s) row (omega (arith, h, length-states_of s scan)) fails 2 refl in
    omega (arith, less, placed.count, length-states_of s scan)

-- the states after one row's number is written
pub states-set : (s : ScanValue) (r v : ℕ) → map (λ v. min v 2) (set s.slot_one r v) ≡ set (states_of s) r (min v 2)
states-set s r v = map-set (λ v. min v 2) s.slot_one r v

module _ (s : ScanValue) (scan : IsScan s) (places row : ℕ) (placed : IsPlaced s places) (h : row < length s.rows)
    (new : state_of s row ≡ 0) where
  left : places < length s.rows
  left = places_left s scan places row placed h new

  unnamed : get_or s.slot_one row 0 ≡ 0
  unnamed = unmet s scan row h new

  pub other_row : (p : ℕ) → p < places → get_or s.slot_zero p 0 ≢ row
  other_row p lt e = absurd (omega (arith, placed.named p lt, unnamed, ap (λ (r : ℕ). get_or s.slot_one r 0) e))

  pub old_place : (p : ℕ) → p < places → get_or (set s.slot_zero places row) p 0 ≡ get_or s.slot_zero p 0
  old_place p lt = let ne : p ≢ places = omega arith in get_or-set_other s.slot_zero places p row 0 ne

  new_place : get_or (set s.slot_zero places row) places 0 ≡ row
  new_place = get_or-set_same s.slot_zero places row 0 (omega (arith, left, scan.slot_zero_of_rows))

  new_name : get_or (set s.slot_one row (places + 2)) row 0 ≡ places + 2
  new_name = get_or-set_same s.slot_one row (places + 2) 0 (omega (arith, h, scan.slot_one_of_rows))

  old_name : (r : ℕ) → r ≢ row → get_or (set s.slot_one row (places + 2)) r 0 ≡ get_or s.slot_one r 0
  old_name r ne = get_or-set_other s.slot_one row r (places + 2) 0 ne

  entered_rows : (p : ℕ) → p < places + 1 → get_or (set s.slot_zero places row) p 0 < length s.rows
  entered_rows p lt = elim (cases_eq p places) as (λ _. get_or (set s.slot_zero places row) p 0 < length s.rows) [
    | inl e ↦ rw (e, new_place) h
    | inr ne ↦ let less : p < places = omega arith in rw (old_place p less) (placed.rows p less)
  ]

  entered_named : (p : ℕ) → p < places + 1 → get_or (set s.slot_one row (places + 2))
      (get_or (set s.slot_zero places row) p 0) 0 ≡ p + 2
  entered_named p lt = elim (cases_eq p places) as (λ _. get_or (set s.slot_one row (places + 2))
      (get_or (set s.slot_zero places row) p 0) 0 ≡ p + 2) [
        | inl e ↦ rw (e, new_place) new_name
        | inr ne ↦ let less : p < places = omega arith in rw (old_place p less)
            (old_name (get_or s.slot_zero p 0) (other_row p less) ∙ placed.named p less)
      ]

  abbrev HeldThere : ℕ → ℕ → Type 0
  HeldThere r v = (v < places + 1 + 2) × (get_or (set s.slot_zero places row) (v - 2) 0 ≡ r)

  entered_held : (r : ℕ) → r < length s.rows → 2 ≤ get_or (set s.slot_one row (places + 2)) r 0 → HeldThere r
      (get_or (set s.slot_one row (places + 2)) r 0)
  entered_held r l some = elim (cases_eq r row) as (λ _. HeldThere r (get_or (set s.slot_one row (places + 2)) r 0)) [
    | inl e ↦
        let v : get_or (set s.slot_one row (places + 2)) r 0 ≡ places + 2 = ap
        (λ (k : ℕ). get_or (set s.slot_one row (places + 2)) k 0) e ∙ new_name in
        let q : places + 2 - 2 ≡ places = omega arith in
        subst (HeldThere r) (sym v) (
          omega arith,
          ap (λ (k : ℕ). get_or (set s.slot_zero places row) k 0) q ∙
              (new_place ∙ sym e),
        )
    | inr ne ↦
        let same = old_name r ne in
        let held = placed.held r l (subst (λ (v : ℕ). 2 ≤ v) same some) in
        let there : get_or s.slot_one r 0 - 2 < places = omega (arith, held.0, subst (λ (v : ℕ). 2 ≤ v) same some) in
        subst (HeldThere r) (sym same) (omega (arith, held.0), old_place (get_or s.slot_one r 0 - 2) there ∙ held.1)
  ]

  pub entered_states : map (λ v. min v 2) (set s.slot_one row (places + 2)) ≡ set (states_of s) row 2
  entered_states = let two : min (places + 2) 2 ≡ 2 = omega arith in states-set s row (places + 2) ∙ ap
      (set (states_of s) row) two

  entered_count : count_by (λ v. v == 2) (set (states_of s) row 2) ≡ places + 1
  entered_count =
      let one = count_by-set (λ v. v == 2) (states_of s) row 2 (omega (arith, h, length-states_of s scan)) in
      let gone : one_if (state_of s row == 2) ≡ 0 = ap (λ (v : ℕ). one_if (v == 2)) new in
      omega (arith, one, gone, placed.count)

  -- the row stands at the end
  pub entered_placed : (costs : List ℕ) → IsPlaced (record s {
    costs = costs;
    slot_zero = set s.slot_zero places row;
    slot_one = set s.slot_one row (places + 2);
  }) (places + 1)
  entered_placed costs = record {
    rows = entered_rows;
    named = entered_named;
    held = entered_held;
    count = ap (λ (xs : List ℕ). count_by (λ v. v == 2) xs) entered_states ∙ entered_count;
  }

module _ (s : ScanValue) (scan : IsScan s) (places row : ℕ) (placed : IsPlaced s places) (some : 0 < places)
    (last : get_or s.slot_zero (places - 1) 0 ≡ row) where
  last_row : row < length s.rows
  last_row = subst (λ (r : ℕ). r < length s.rows) last (placed.rows (places - 1) (omega arith))

  last_name : get_or s.slot_one row 0 ≡ places + 1
  last_name = let less : places - 1 < places = omega arith in let e : places - 1 + 2 ≡ places + 1 = omega arith in ap
      (λ (r : ℕ). get_or s.slot_one r 0) (sym last) ∙ (placed.named (places - 1) less ∙ e)

  kept_name : (r : ℕ) → r ≢ row → get_or (set s.slot_one row 1) r 0 ≡ get_or s.slot_one r 0
  kept_name r ne = get_or-set_other s.slot_one row r 1 0 ne

  taken_named : (p : ℕ) → p < places - 1 → get_or (set s.slot_one row 1) (get_or s.slot_zero p 0) 0 ≡ p + 2
  taken_named p lt =
      let named = placed.named p (omega arith) in
      let ne : get_or s.slot_zero p 0 ≢ row = λ e. absurd (omega
      (arith, lt, named, last_name, ap (λ (r : ℕ). get_or s.slot_one r 0) e)) in
      kept_name (get_or s.slot_zero p 0) ne ∙ named

  taken_held : (r : ℕ) → r < length s.rows → 2 ≤ get_or (set s.slot_one row 1) r 0 →
      (get_or (set s.slot_one row 1) r 0 < places - 1 + 2) × (get_or s.slot_zero
      (get_or (set s.slot_one row 1) r 0 - 2) 0 ≡ r)
  taken_held r l two = elim (cases_eq r row) as (λ _. (get_or (set s.slot_one row 1) r 0 < places - 1 + 2) ×
      (get_or s.slot_zero (get_or (set s.slot_one row 1) r 0 - 2) 0 ≡ r)) [
        | inl e ↦
            let one : get_or (set s.slot_one row 1) r 0 ≡ 1 = ap (λ (k : ℕ). get_or (set s.slot_one row 1) k 0) e
            ∙ get_or-set_same s.slot_one row 1 0 (omega (arith, last_row, scan.slot_one_of_rows)) in
            absurd (omega (arith, one, two))
        | inr ne ↦
            let same = kept_name r ne in
            let held = placed.held r l (subst (λ (v : ℕ). 2 ≤ v) same two) in
            let not_last : get_or s.slot_one r 0 - 2 ≢ places - 1 = λ e. ne
            (sym held.1 ∙ (ap (λ (q : ℕ). get_or s.slot_zero q 0) e ∙ last)) in
            let less : get_or s.slot_one r 0 < places - 1 + 2 = omega (arith, held.0, not_last, some) in
            subst (λ (v : ℕ). (v < places - 1 + 2) × (get_or s.slot_zero (v - 2) 0 ≡ r)) (sym same) (less, held.1)
      ]

  pub taken_states : map (λ v. min v 2) (set s.slot_one row 1) ≡ set (states_of s) row 1
  taken_states = states-set s row 1

  taken_count : count_by (λ v. v == 2) (set (states_of s) row 1) ≡ places - 1
  taken_count =
      let one = count_by-set (λ v. v == 2) (states_of s) row 1 (omega (arith, last_row, length-states_of s scan)) in
      let was : state_of s row ≡ 2 = omega (arith, state_at s scan row last_row, last_name) in
      let there : one_if (state_of s row == 2) ≡ 1 = ap (λ (v : ℕ). one_if (v == 2)) was in
      omega (arith, one, there, placed.count)

  -- the row at the end is settled
  pub taken_placed : IsPlaced (record s { slot_one = set s.slot_one row 1 }) (places - 1)
  taken_placed = record {
    rows = λ p lt. placed.rows p (omega arith);
    named = taken_named;
    held = taken_held;
    count = ap (λ (xs : List ℕ). count_by (λ v. v == 2) xs) taken_states ∙ taken_count;
  }

-- and what the number says of the state
pub zero_state : (s : ScanValue) → IsScan s → (r : ℕ) → r < length s.rows → get_or s.slot_one r 0 ≡ 0 → state_of s r ≡ 0
zero_state s scan r h e = omega (arith, state_at s scan r h, e)

pub some_state : (s : ScanValue) → IsScan s → (r : ℕ) → r < length s.rows → get_or s.slot_one r 0 ≢ 0 → state_of s r ≢ 0
some_state s scan r h ne e = ne (omega (arith, state_at s scan r h, e))
