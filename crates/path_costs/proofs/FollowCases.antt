-- The three cases in which a pair that is followed changes something.
use Rattle.std.proofs.Common.{◌≡◌, ◌≢◌, ℕ, ◌+◌, ◌<◌, ◌≤◌, ◌==◌, min, List, length, map, get_or, set, refl, sym, ap, ◌∙◌}
use Rattle.std.proofs.Common.{subst, arith, get_or-set_same, get_or-set_other}
use Rattle.std.specs.Prelude.{count_by}
use Rattle.scan_record.specs.Scan.{ScanValue, IsScan}
use Rattle.path_costs.specs.Heap.{states_of, state_of, settled_count}
use Rattle.path_costs.specs.Search.{key_of_row, row_cost, parent_of, HasPair, IsFollowed, IsOpen, FollowsPair}
use Rattle.path_costs.proofs.HeapPlaces.{one_if, count_by-set, length-states_of, state_at}
use Rattle.path_costs.proofs.Following.{IsRelaxed, relaxed}

module _ (s : ScanValue) (scan : IsScan s) (from row w : ℕ) (now : IsOpen s from) (r : row < length s.rows)
    (pair : HasPair s from row w) where
  some_weight : 1 ≤ w
  some_weight = now.search.graph.weighed (key_of_row s from) (key_of_row s row) w pair

  -- the state after a row's parent is set
  abbrev changed : (cs zs os : List ℕ) → ScanValue
  changed cs zs os = record s { costs = cs; slot_zero = zs; slot_one = os; slot_two = set s.slot_two row from }

  parent_set : get_or (set s.slot_two row from) row 0 ≡ from
  parent_set = get_or-set_same s.slot_two row from 0 (omega (arith, r, scan.slot_two_of_rows))

  parents_kept : (y : ℕ) → y ≢ row → get_or (set s.slot_two row from) y 0 ≡ parent_of s y
  parents_kept y ne = get_or-set_other s.slot_two row y from 0 ne

  cost_set : (c : ℕ) → get_or (set s.costs row c) row 0 ≡ c
  cost_set c = get_or-set_same s.costs row c 0 (omega (arith, r, scan.costs_of_rows))

  costs_kept : (c y : ℕ) → y ≢ row → get_or (set s.costs row c) y 0 ≡ row_cost s y
  costs_kept c y ne = get_or-set_other s.costs row y c 0 ne

  -- a row that costs more than the one settled last waits, or wasn't met
  pub dear_waits : state_of s row ≢ 0 → row_cost s from < row_cost s row → state_of s row ≡ 2
  dear_waits met dear =
      let two = state_at s scan row r in
      let not_settled : state_of s row ≢ 1 = λ e. absurd (omega (arith, now.last row r e, dear)) in
      omega (arith, two, met, not_settled)

  pub past_root : 0 < row_cost s row → 0 < row
  past_root some =
      let ne : row ≢ 0 = λ e. absurd (omega (arith, some, ap (row_cost s) e, now.search.root_cost)) in
      omega arith

  -- a row that wasn't met
  pub new_follows : state_of s row ≡ 0 → w ≤ 4294967295 → (zs os : List ℕ) → map (λ v. min v 2) os ≡ set
      (states_of s) row 2
      → FollowsPair s (changed (set s.costs row (row_cost s from + w)) zs os) from row w
  new_follows new fits zs os states =
      relaxed s from row w (set s.costs row (row_cost s from + w)) zs os (set s.slot_two row from) now r pos pair fits
      (λ e. absurd (omega (arith, e, new))) is
      (λ x v h e ne p. absurd (omega (arith, (now.search.followed x row v h r e ne p).met, new)))
    where
      pos : 0 < row
      pos = let ne : row ≢ 0 = λ e. absurd (omega (arith, now.search.root, new, ap (state_of s) e)) in omega arith

      inside : row < length (states_of s)
      inside = omega (arith, r, length-states_of s scan)

      is : IsRelaxed s from row w (set s.costs row (row_cost s from + w)) zs os (set s.slot_two row from)
      is = record {
        state = ap (λ (xs : List ℕ). get_or xs row 0) states ∙ get_or-set_same (states_of s) row 2 0 inside;
        states = λ y ne. ap (λ (xs : List ℕ). get_or xs y 0) states ∙ get_or-set_other (states_of s) row y 2 0 ne;
        cost = cost_set (row_cost s from + w);
        costs = costs_kept (row_cost s from + w);
        parent = parent_set;
        parents = parents_kept;
        settled =
            let one = count_by-set (λ v. v == 1) (states_of s) row 2 inside in
            let gone : one_if (state_of s row == 1) ≡ 0 = ap (λ (v : ℕ). one_if (v == 1)) new in
            let same : count_by (λ v. v == 1) (set (states_of s) row 2) ≡ settled_count s = omega (arith, one, gone) in
            ap (λ (xs : List ℕ). count_by (λ v. v == 1) xs) states ∙ same;
      }

  -- the states stay where the row waits already
  still_waits : (cs zs os : List ℕ) → state_of s row ≡ 2 → map (λ v. min v 2) os ≡ states_of s
      → get_or cs row 0 ≡ row_cost s from + w → ((y : ℕ) → y ≢ row → get_or cs y 0 ≡ row_cost s y)
      → IsRelaxed s from row w cs zs os (set s.slot_two row from)
  still_waits cs zs os two states cost costs = record {
    state = ap (λ (xs : List ℕ). get_or xs row 0) states ∙ two;
    states = λ y ne. ap (λ (xs : List ℕ). get_or xs y 0) states;
    cost = cost;
    costs = costs;
    parent = parent_set;
    parents = parents_kept;
    settled = ap (λ (xs : List ℕ). count_by (λ v. v == 1) xs) states;
  }

  -- a row that becomes cheaper
  pub cheaper_follows : state_of s row ≢ 0 → row_cost s from + w < row_cost s row → w ≤ 4294967295 → (zs os : List ℕ)
      → map (λ v. min v 2) os ≡ states_of s
      → FollowsPair s (changed (set s.costs row (row_cost s from + w)) zs os) from row w
  cheaper_follows met less fits zs os states =
      relaxed s from row w (set s.costs row (row_cost s from + w)) zs os (set s.slot_two row from) now r
      (past_root (omega (arith, less))) pair fits (λ e. absurd (omega (arith, e, two)))
      (still_waits (set s.costs row (row_cost s from + w)) zs os two states (cost_set (row_cost s from + w))
      (costs_kept (row_cost s from + w)))
      improves
    where
      two : state_of s row ≡ 2
      two = dear_waits met (omega (arith, less))

      improves : (x v : ℕ) → x < length s.rows → state_of s x ≡ 1 → x ≢ from → HasPair s x row v → IsFollowed
          (changed (set s.costs row (row_cost s from + w)) zs os) x row v
      improves x v h e ne p =
          let was = now.search.followed x row v h r e ne p in
          let x_not : x ≢ row = λ f. absurd (omega (arith, ap (state_of s) f, e, two)) in
          let here = cost_set (row_cost s from + w) in
          let there = costs_kept (row_cost s from + w) x x_not in
          record {
            met = omega (arith, ap (λ (xs : List ℕ). get_or xs row 0) states, two);
            cost = omega (arith, here, there, was.cost, less);
            least = λ some f. absurd (omega (arith, f, here, there, was.cost, less));
          }

  -- a row that gets a lesser parent
  pub lesser_follows : state_of s row ≢ 0 → row_cost s row ≡ row_cost s from + w → w ≤ 4294967295
      → key_of_row s from < key_of_row s (parent_of s row)
      → FollowsPair s (changed s.costs s.slot_zero s.slot_one) from row w
  lesser_follows met tie fits less =
      relaxed s from row w s.costs s.slot_zero s.slot_one (set s.slot_two row from) now r
      (past_root (omega (arith, tie, some_weight))) pair fits (λ e. absurd (omega (arith, e, two)))
      (still_waits s.costs s.slot_zero s.slot_one two refl tie (λ y _. refl))
      improves
    where
      two : state_of s row ≡ 2
      two = dear_waits met (omega (arith, tie, some_weight))

      improves : (x v : ℕ) → x < length s.rows → state_of s x ≡ 1 → x ≢ from → HasPair s x row v → IsFollowed
          (changed s.costs s.slot_zero s.slot_one) x row v
      improves x v h e ne p =
          let was = now.search.followed x row v h r e ne p in
          record {
            met = was.met;
            cost = was.cost;
            least = λ some f.
                let le = was.least some f in
                subst (λ (q : ℕ). key_of_row s q ≤ key_of_row s x) (sym parent_set) (omega (arith, le, less));
          }

  -- the parent of a row that costs as much
  pub tie_parent : state_of s row ≢ 0 → row_cost s row ≡ row_cost s from + w → parent_of s row < length s.rows
  tie_parent met tie = (now.search.parents row (past_root (omega (arith, tie, some_weight))) r (omega (arith, met))).row

-- both writes, of the parent and of the heap
pub both_written : (s mid new : ScanValue) (row from c d : ℕ) → mid ≡ record s { slot_two = set s.slot_two row from }
    → new ≡ record mid { costs = set mid.costs row c; slot_zero = new.slot_zero; slot_one = new.slot_one } → c ≡ d
    → new ≡ record s {
      costs = set s.costs row d;
      slot_zero = new.slot_zero;
      slot_one = new.slot_one;
      slot_two = set
          s.slot_two row from;
    }
both_written s mid new row from c d a b e =
    let then : ScanValue → ScanValue = λ (u : ScanValue). record u
    { costs = set u.costs row c; slot_zero = new.slot_zero; slot_one = new.slot_one } in
    let last : ℕ → ScanValue = λ (k : ℕ). record s {
      costs = set s.costs row k;
      slot_zero = new.slot_zero;
      slot_one =
          new.slot_one;
      slot_two = set s.slot_two row from;
    } in
    b ∙ (ap then a ∙ ap last e)
