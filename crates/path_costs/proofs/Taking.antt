-- The cheapest row that waits is settled.
use Rattle.std.proofs.Common.{◌≡◌, ◌≢◌, ℕ, ◌+◌, ◌<◌, ◌≤◌, ◌==◌, min, inl, inr, List, length, map, get_or, set, sym, ap}
use Rattle.std.proofs.Common.{◌∙◌, subst, arith, get_or-set_same, get_or-set_other, length-set}
use Rattle.std.specs.Prelude.{count_by}
use Rattle.std.proofs.lemmas.Bool.{cases_eq}
use Rattle.scan_record.specs.Scan.{ScanValue, IsScan}
use Rattle.path_costs.specs.Heap.{states_of, state_of, settled_count}
use Rattle.path_costs.specs.Search.{row_cost, parent_of, IsFollowed, HasParent, IsReached, IsSearchBut, IsSearch}
use Rattle.path_costs.specs.Search.{IsOpen}
use Rattle.path_costs.proofs.HeapPlaces.{one_if, count_by-set, length-states_of}

module _ (s : ScanValue) (row : ℕ) (zs os : List ℕ) (long : length (states_of s) ≡ length s.rows) (now : IsSearch s)
    (h : row < length s.rows) (waited : state_of s row ≡ 2)
    (least : (r : ℕ) → r < length s.rows → state_of s r ≡ 2 → row_cost s row ≤ row_cost s r)
    (states : map (λ v. min v 2) os ≡ set (states_of s) row 1) where
  abbrev taken : ScanValue
  taken = record s { slot_zero = zs; slot_one = os }

  row_settled : state_of taken row ≡ 1
  row_settled = ap (λ (xs : List ℕ). get_or xs row 0) states ∙ get_or-set_same (states_of s) row 1 0
      (omega (arith, h, long))

  same_state : (y : ℕ) → y ≢ row → state_of taken y ≡ state_of s y
  same_state y ne = ap (λ (xs : List ℕ). get_or xs y 0) states ∙ get_or-set_other (states_of s) row y 1 0 ne

  was_met : (y : ℕ) → 1 ≤ state_of taken y → 1 ≤ state_of s y
  was_met y met = elim (cases_eq y row) as (λ _. 1 ≤ state_of s y) [
    | inl e ↦ omega (arith, ap (state_of s) e, waited)
    | inr ne ↦ omega (arith, same_state y ne, met)
  ]

  still_met : (y : ℕ) → 1 ≤ state_of s y → 1 ≤ state_of taken y
  still_met y met = elim (cases_eq y row) as (λ _. 1 ≤ state_of taken y) [
    | inl e ↦ omega (arith, ap (state_of taken) e, row_settled)
    | inr ne ↦ omega (arith, same_state y ne, met)
  ]

  still_settled : (y : ℕ) → state_of s y ≡ 1 → state_of taken y ≡ 1
  still_settled y e =
      let ne : y ≢ row = λ f. absurd (omega (arith, e, ap (state_of s) f, waited)) in
      same_state y ne ∙ e

  -- a row that still waits is another, and no cheaper
  waits_on : (y : ℕ) → y < length s.rows → state_of taken y ≡ 2 → (state_of s y ≡ 2) × (row_cost s row ≤ row_cost s y)
  waits_on y k e =
      let ne : y ≢ row = λ f. absurd (omega (arith, e, ap (state_of taken) f, row_settled)) in
      let two : state_of s y ≡ 2 = sym (same_state y ne) ∙ e in
      (two, least y k two)

  taken_ordered : (x y : ℕ) → x < length s.rows → y < length s.rows → state_of taken x ≡ 1 → state_of taken y ≡ 2
      → row_cost s x ≤ row_cost s y
  taken_ordered x y k l e f =
      let w = waits_on y l f in
      elim (cases_eq x row) as (λ _. row_cost s x ≤ row_cost s y) [
        | inl same ↦ omega (arith, ap (row_cost s) same, w.1)
        | inr ne ↦ now.ordered x y k l (sym (same_state x ne) ∙ e) w.0
      ]

  pub more_settled : settled_count taken ≡ settled_count s + 1
  more_settled =
      let one = count_by-set (λ v. v == 1) (states_of s) row 1 (omega (arith, h, long)) in
      let gone : one_if (state_of s row == 1) ≡ 0 = ap (λ (v : ℕ). one_if (v == 1)) waited in
      let now_one : count_by (λ v. v == 1) (set (states_of s) row 1) ≡ settled_count s + 1 = omega (arith, one, gone) in
      ap (λ (xs : List ℕ). count_by (λ v. v == 1) xs) states ∙ now_one

  taken_search : IsSearchBut taken row
  taken_search = record {
    graph = now.graph;
    root = still_met 0 now.root;
    root_cost = now.root_cost;
    reached = λ y k met. let r : IsReached s y = now.reached y k
        (was_met y met) in record { path = r.path; is_path = r.is_path; cost = r.cost };
    parents = λ y pos k met.
        let p : HasParent s y = now.parents y pos k (was_met y met) in
        record {
          row = p.row;
          settled = still_settled (parent_of s y) p.settled;
          weight = p.weight;
          pair = p.pair;
          total
              = p.total;
        };
    ordered = taken_ordered;
    below = λ y k met. omega (arith, now.below y k (was_met y met), more_settled);
    followed = λ x y w k l e ne p.
        let not_end : x ≢ length s.rows = omega (arith, k) in
        let f : IsFollowed s x y w = now.followed x y w k l (sym (same_state x ne) ∙ e) not_end p in
        record { met = still_met y f.met; cost = f.cost; least = f.least };
  }

  pub taken_open : IsOpen taken row
  taken_open = record {
    search = taken_search;
    row = h;
    settled = row_settled;
    last = λ y k e. elim (cases_eq y row) as (λ _. row_cost s y ≤ row_cost s row) [
      | inl same ↦ omega (arith, ap (row_cost s) same)
      | inr ne ↦ now.ordered y row k h (sym (same_state y ne) ∙ e) waited
    ];
    room = omega (arith, now.below row h (omega (arith, waited)), more_settled);
  }

  -- the settled rows are those before and this one
  pub taken_cases : (y : ℕ) → state_of taken y ≡ 1 → y ≢ row → state_of s y ≡ 1
  taken_cases y e ne = sym (same_state y ne) ∙ e

-- what a row that is taken leaves
pub record IsTakenRow (old new : ScanValue) (row : ℕ) : Type 0 where
  pub open_row : IsOpen new row
  pub settled : settled_count new ≡ settled_count old + 1
  pub only : (y : ℕ) → state_of new y ≡ 1 → y ≢ row → state_of old y ≡ 1

pub is_taken : (s new : ScanValue) (row : ℕ) → IsScan new → IsSearch s → row < length s.rows → state_of s row ≡ 2 →
    ((r : ℕ) → r < length s.rows → state_of s r ≡ 2 → row_cost s row ≤ row_cost s r)
    → states_of new ≡ set (states_of s) row 1 → new ≡ record s { slot_zero = new.slot_zero; slot_one = new.slot_one }
    → IsTakenRow s new row
is_taken s new row scan now h waited least states rest =
    let rows : length new.rows ≡ length s.rows = ap (λ (t : ScanValue). length t.rows) rest in
    let long : length (states_of s) ≡ length s.rows = omega (
      arith,
      rows,
      length-states_of new scan,
      ap
          (λ (xs : List ℕ). length xs) states,
      length-set (states_of s) row 1,
    ) in
    subst (λ (t : ScanValue). IsTakenRow s t row) (sym rest) (record {
      open_row = taken_open s row new.slot_zero new.slot_one long now h waited least states;
      settled = more_settled s row new.slot_zero new.slot_one long now h waited least states;
      only = taken_cases s row new.slot_zero new.slot_one long now h waited least states;
    })
