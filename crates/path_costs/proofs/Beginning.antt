-- A search begins with row 0 in the heap, at no cost.
use Rattle.std.proofs.Common.{◌≡◌, ◌≢◌, ℕ, suc, ◌+◌, ◌<◌, ◌≤◌, ◌==◌, Bool, false, min, inl, inr, List, [], ◌∷◌, length}
use Rattle.std.proofs.Common.{map, get_or, set, refl, sym, ap, ◌∙◌, subst, arith, get_or-set_same, get_or-set_other}
use Rattle.std.specs.Prelude.{count_by}
use Rattle.std.proofs.lemmas.Bool.{cases_eq}
use Rattle.std.proofs.lemmas.List.Sums.{sum_by-cons}
use Rattle.scan_record.specs.Asked.{root_of}
use Rattle.scan_record.specs.Scan.{ScanValue, IsScan, IsComplete}
use Rattle.scan_record.proofs.IsGraphOfScan.{graph_law}
use Rattle.scan_record.proofs.ScanFacts.{row_key}
use Rattle.path_costs.specs.Heap.{states_of, state_of, IsHeap}
use Rattle.path_costs.specs.Search.{IsReached, IsSearch}
use Rattle.path_costs.proofs.HeapPlaces.{one_if, length-states_of, zero_state}

-- nothing passes where nothing at a place does
none_pass : (p : ℕ → Bool) (xs : List ℕ) → ((k : ℕ) → k < length xs → p (get_or xs k 0) ≡ false) → count_by p xs ≡ 0
none_pass p [] none = refl
none_pass p (x ∷ xs) none =
    let here : one_if (p x) ≡ 0 = ap one_if (none 0 (omega arith)) in
    let later = none_pass p xs (λ k lt. none (suc k) (omega arith)) in
    let more : count_by p (x ∷ xs) ≡ one_if (p x) + count_by p xs = sum_by-cons (λ y. one_if (p y)) x xs in
    omega (arith, here, later, more)

module _ (s : ScanValue) (scan : IsScan s) (forgotten : (r : ℕ) → r < length s.rows → get_or s.slot_one r 0 ≡ 0) where
  unmet_all : (r : ℕ) → r < length s.rows → state_of s r ≡ 0
  unmet_all r h = zero_state s scan r h (forgotten r h)

  -- no row waits
  pub empty_heap : IsHeap s 0
  empty_heap = record {
    placed = record {
      rows = λ p lt. absurd (omega (arith, lt));
      named = λ p lt. absurd (omega (arith, lt));
      held = λ r h two. absurd (omega (arith, forgotten r h, two));
      count = none_pass (λ v. v == 2) (states_of s) (λ k lt. ap (λ (v : ℕ). v == 2)
          (unmet_all k (omega (arith, lt, length-states_of s scan))));
    };
    ordered = λ q p lt. absurd (omega (arith, lt));
  }

  pub root_unmet : 0 < length s.rows → state_of s 0 ≡ 0
  root_unmet h = unmet_all 0 h

  module _ (is : IsComplete s) (zs os : List ℕ) (states : map (λ v. min v 2) os ≡ set (states_of s) 0 2) where
    abbrev pub begun : ScanValue
    begun = record s { costs = set s.costs 0 0; slot_zero = zs; slot_one = os }

    root_waits : state_of begun 0 ≡ 2
    root_waits = ap (λ (xs : List ℕ). get_or xs 0 0) states ∙ get_or-set_same (states_of s) 0 2 0
        (omega (arith, is.has_root, length-states_of s scan))

    others_unmet : (y : ℕ) → y < length s.rows → y ≢ 0 → state_of begun y ≡ 0
    others_unmet y h ne = ap (λ (xs : List ℕ). get_or xs y 0) states ∙
        (get_or-set_other (states_of s) 0 y 2 0 ne ∙ unmet_all y h)

    only_root : (y : ℕ) → y < length s.rows → 1 ≤ state_of begun y → y ≡ 0
    only_root y h met = elim (cases_eq y 0) as (λ _. y ≡ 0) [
      | inl e ↦ e
      | inr ne ↦ absurd
          (omega (arith, met, others_unmet y h ne))
    ]

    pub none_settled : (y : ℕ) → y < length s.rows → state_of begun y ≡ 1 → (y ≡ 0) × ((y ≡ 0) → ⊥)
    none_settled y h e = (
      only_root y h (omega (arith, e)),
      λ f. absurd
          (omega (arith, e, ap (state_of begun) f, root_waits)),
    )

    root_cost : get_or (set s.costs 0 0) 0 0 ≡ 0
    root_cost = get_or-set_same s.costs 0 0 0 (omega (arith, is.has_root, scan.costs_of_rows))

    root_reached : IsReached begun 0
    root_reached = record {
      path = root_of s ∷ [];
      is_path = (refl, refl, row_key s 0 is.has_root);
      cost = sym root_cost;
    }

    pub begun_search : IsSearch begun
    begun_search = record {
      graph = graph_law s scan is;
      root = omega (arith, root_waits);
      root_cost = root_cost;
      reached = λ y h met. subst (IsReached begun) (sym (only_root y h met)) root_reached;
      parents = λ y pos h met. absurd (omega (arith, pos, only_root y h met));
      ordered = λ x y h k e f. let n = none_settled x h e in absurd (n.1 n.0);
      below = λ y h met.
          let here : get_or (set s.costs 0 0) y 0 ≡ 0 = ap (λ (z : ℕ). get_or (set s.costs 0 0) z 0) (only_root y h met)
          ∙ root_cost in
          omega (arith, here);
      followed = λ x y w h k e ne p. let n = none_settled x h e in absurd (n.1 n.0);
    }
