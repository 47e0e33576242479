-- A pair from the row settled last is followed: to a row that is met or becomes cheaper, or gets a lesser parent.
use Rattle.std.proofs.Common.{◌≡◌, ◌≢◌, ℕ, ◌+◌, ◌*◌, ◌<◌, ◌≤◌, ◌==◌, min, inl, inr, List, [], ◌∷◌, ◌++◌, length, map}
use Rattle.std.proofs.Common.{get_or, unwrap_or, Option, true, is_some, refl, sym, ap, ◌∙◌, subst, arith}
use Rattle.std.specs.Prelude.{count_by}
use Rattle.std.proofs.lemmas.Bool.{cases_eq}
use Rattle.graph_kinds.specs.Graph.{IsGraph, weight_of}
use Rattle.graph_kinds.specs.Path.{IsPath, cost_of}
use Rattle.graph_kinds.proofs.PathsWalks.{path_on}
use Rattle.graph_kinds.proofs.CostsCheapest.{cost_on}
use Rattle.scan_record.specs.Asked.{root_of}
use Rattle.scan_record.specs.Scan.{ScanValue}
use Rattle.scan_record.specs.ScanGraph.{graph_of_scan}
use Rattle.path_costs.specs.Heap.{state_of, settled_count}
use Rattle.path_costs.specs.Search.{key_of_row, row_cost, parent_of, HasPair, IsFollowed, HasParent, IsReached}
use Rattle.path_costs.specs.Search.{IsSearchBut, IsOpen, FollowsPair}

-- a pair has one weight
pub one_weight : (s : ScanValue) (x y v w : ℕ) → HasPair s x y v → HasPair s x y w → v ≡ w
one_weight s x y v w a b = ap (λ (o : Option ℕ). unwrap_or o v) (sym a ∙ b)

-- one more pair at the end of a path that reaches a row
pub reached_on : (s : ScanValue) (x y w : ℕ) → IsGraph (graph_of_scan s) → HasPair s x y w → IsReached s x
    → (path : List ℕ) × IsPath (graph_of_scan s) (root_of s) (key_of_row s y) path ×
    (cost_of (graph_of_scan s) path ≡ row_cost s x + w)
reached_on s x y w is pair r =
    let there : is_some (weight_of (graph_of_scan s) (key_of_row s x) (key_of_row s y)) ≡ true = ap
    (λ (o : Option ℕ). is_some o) pair in (
      r.path ++ key_of_row s y ∷ [],
      path_on (graph_of_scan s) (root_of s) (key_of_row s x) (key_of_row s y) r.path r.is_path there
          (is.to_key (key_of_row s x) (key_of_row s y) w pair),
      cost_on (graph_of_scan s) (root_of s) (key_of_row s x) (key_of_row s y) w r.path r.is_path pair ∙ ap
          (λ (c : ℕ). c + w) r.cost,
    )

module _ (s : ScanValue) (from row w : ℕ) (cs zs os ps : List ℕ) where
  -- the scan with other costs and slots
  abbrev pub written : ScanValue
  written = record s { costs = cs; slot_zero = zs; slot_one = os; slot_two = ps }

  -- the row waits, at the cost over the pair from the other row, which is its parent; no other row is changed
  pub record IsRelaxed : Type 0 where
    pub state : get_or (map (λ v. min v 2) os) row 0 ≡ 2
    pub states : (y : ℕ) → y ≢ row → get_or (map (λ v. min v 2) os) y 0 ≡ state_of s y
    pub cost : get_or cs row 0 ≡ row_cost s from + w
    pub costs : (y : ℕ) → y ≢ row → get_or cs y 0 ≡ row_cost s y
    pub parent : get_or ps row 0 ≡ from
    pub parents : (y : ℕ) → y ≢ row → get_or ps y 0 ≡ parent_of s y
    pub settled : count_by (λ v. v == 1) (map (λ v. min v 2) os) ≡ settled_count s

  module _ (now : IsOpen s from) (r : row < length s.rows) (pos : 0 < row) (pair : HasPair s from row w)
      (fits : w ≤ 4294967295) (unsettled : state_of s row ≢ 1) (new : IsRelaxed)
      (improves : (x v : ℕ) → x < length s.rows → state_of s x ≡ 1 → x ≢ from → HasPair s x row v
      → IsFollowed written x row v) where
    from_not : from ≢ row
    from_not e = unsettled (ap (state_of s) (sym e) ∙ now.settled)

    settled_not : (x : ℕ) → state_of s x ≡ 1 → x ≢ row
    settled_not x e f = unsettled (ap (state_of s) (sym f) ∙ e)

    -- a row that is settled now was settled before
    was_not : (x : ℕ) → state_of written x ≡ 1 → x ≢ row
    was_not x e f = absurd (omega (arith, e, ap (state_of written) f, new.state))

    was_settled : (x : ℕ) → state_of written x ≡ 1 → state_of s x ≡ 1
    was_settled x e = sym (new.states x (was_not x e)) ∙ e

    over : (path : List ℕ) × IsPath (graph_of_scan s) (root_of s) (key_of_row s row) path ×
        (cost_of (graph_of_scan s) path ≡ row_cost s from + w)
    over = reached_on s from row w now.search.graph pair (now.search.reached from now.row (omega (arith, now.settled)))

    written_reached : (y : ℕ) → y < length s.rows → 1 ≤ state_of written y → IsReached written y
    written_reached y h met = elim (cases_eq y row) as (λ _. IsReached written y) [
      | inl e ↦ subst (IsReached written) (sym e) (record {
        path = over.0;
        is_path = over.1;
        cost = over.2
            ∙ sym new.cost;
      })
      | inr ne ↦
          let was : IsReached s y = now.search.reached y h (subst (λ (v : ℕ). 1 ≤ v) (new.states y ne) met) in
          record { path = was.path; is_path = was.is_path; cost = was.cost ∙ sym (new.costs y ne) }
    ]

    row_parent : HasParent written row
    row_parent = record {
      row = subst (λ (p : ℕ). p < length s.rows) (sym new.parent) now.row;
      settled = ap (state_of written) new.parent ∙ (new.states from from_not ∙ now.settled);
      weight = w;
      pair = subst (λ (p : ℕ). HasPair s p row w) (sym new.parent) pair;
      total = ap (λ (p : ℕ). get_or cs p 0 + w) new.parent ∙ (ap (λ (c : ℕ). c + w) (new.costs from from_not)
          ∙ sym new.cost);
    }

    written_parents : (y : ℕ) → 0 < y → y < length s.rows → 1 ≤ state_of written y → HasParent written y
    written_parents y some h met = elim (cases_eq y row) as (λ _. HasParent written y) [
      | inl e ↦ subst (HasParent written) (sym e) row_parent
      | inr ne ↦
          let was : HasParent s y = now.search.parents y some h (subst (λ (v : ℕ). 1 ≤ v) (new.states y ne) met) in
          let same : parent_of written y ≡ parent_of s y = new.parents y ne in
          let p_not : parent_of s y ≢ row = settled_not (parent_of s y) was.settled in
          record {
            row = subst (λ (p : ℕ). p < length s.rows) (sym same) was.row;
            settled = ap (state_of written) same ∙ (new.states (parent_of s y) p_not ∙ was.settled);
            weight = was.weight;
            pair = subst (λ (p : ℕ). HasPair s p y was.weight) (sym same) was.pair;
            total = ap (λ (p : ℕ). get_or cs p 0 + was.weight) same ∙
                (ap (λ (c : ℕ). c + was.weight) (new.costs (parent_of s y) p_not) ∙ (was.total ∙ sym (new.costs y ne)));
          }
    ]

    written_ordered : (x y : ℕ) → x < length s.rows → y < length s.rows → state_of written x ≡ 1
        → state_of written y ≡ 2 → row_cost written x ≤ row_cost written y
    written_ordered x y h k e f =
        let x_not = was_not x e in
        let was = was_settled x e in
        elim (cases_eq y row) as (λ _. row_cost written x ≤ row_cost written y) [
          | inl g ↦
              let here : row_cost written y ≡ row_cost s from + w = ap (λ (z : ℕ). get_or cs z 0) g ∙ new.cost in
              omega (arith, new.costs x x_not, here, now.last x h was)
          | inr ne ↦
              let two : state_of s y ≡ 2 = sym (new.states y ne) ∙ f in
              omega (arith, new.costs x x_not, new.costs y ne, now.search.ordered x y h k was two)
        ]

    written_below : (y : ℕ) → y < length s.rows → 1 ≤ state_of written y
        → row_cost written y ≤ settled_count written * 4294967295
    written_below y h met = elim (cases_eq y row) as (λ _. row_cost written y ≤ settled_count written * 4294967295) [
      | inl e ↦
          let here : row_cost written y ≡ row_cost s from + w = ap (λ (z : ℕ). get_or cs z 0) e ∙ new.cost in
          omega (arith, here, now.room, fits, new.settled)
      | inr ne ↦ omega (
        arith,
        new.costs y ne,
        new.settled,
        now.search.below y h
            (subst (λ (v : ℕ). 1 ≤ v) (new.states y ne) met),
      )
    ]

    -- what was followed to another row still is
    still_followed : (x y v : ℕ) → x ≢ row → y ≢ row → IsFollowed s x y v → IsFollowed written x y v
    still_followed x y v x_not y_not f = record {
      met = subst (λ (n : ℕ). 1 ≤ n) (sym (new.states y y_not)) f.met;
      cost = omega (arith, new.costs x x_not, new.costs y y_not, f.cost);
      least = λ some e.
          let same : parent_of written y ≡ parent_of s y = new.parents y y_not in
          subst (λ (p : ℕ). key_of_row s p ≤ key_of_row s x) (sym same)
          (f.least some (sym (new.costs y y_not) ∙ (e ∙ ap (λ (c : ℕ). c + v) (new.costs x x_not))));
    }

    row_followed : IsFollowed written from row w
    row_followed = record {
      met = omega (arith, new.state);
      cost = omega (arith, new.cost, new.costs from from_not);
      least = λ some e. subst (λ (p : ℕ). key_of_row s p ≤ key_of_row s from) (sym new.parent) (omega arith);
    }

    written_followed : (x y v : ℕ) → x < length s.rows → y < length s.rows → state_of written x ≡ 1 → x ≢ from
        → HasPair s x y v → IsFollowed written x y v
    written_followed x y v h k e ne p = elim (cases_eq y row) as (λ _. IsFollowed written x y v) [
      | inl g ↦ subst (λ (z : ℕ). IsFollowed written x z v) (sym g)
          (improves x v h (was_settled x e) ne (subst (λ (z : ℕ). HasPair s x z v) g p))
      | inr y_not ↦ still_followed x y v (was_not x e) y_not (now.search.followed x y v h k (was_settled x e) ne p)
    ]

    written_search : IsSearchBut written from
    written_search =
        let zero_not : 0 ≢ row = omega arith in
        record {
          graph = now.search.graph;
          root = subst (λ (v : ℕ). 1 ≤ v) (sym (new.states 0 zero_not)) now.search.root;
          root_cost = new.costs 0 zero_not ∙ now.search.root_cost;
          reached = written_reached;
          parents = written_parents;
          ordered = written_ordered;
          below = written_below;
          followed = written_followed;
        }

    pub relaxed : FollowsPair s written from row w
    relaxed = record {
      open_row = record {
        search = written_search;
        row = now.row;
        settled = new.states from from_not ∙ now.settled;
        last = λ y h e. omega (
          arith,
          new.costs y (was_not y e),
          new.costs from from_not,
          now.last y h
              (was_settled y e),
        );
        room = omega (arith, new.costs from from_not, new.settled, now.room);
      };
      followed = row_followed;
      earlier = λ y v h p f. elim (cases_eq y row) as (λ _. IsFollowed written from y v) [
        | inl e ↦
            let same : w ≡ v = one_weight s from row w v pair (subst (λ (z : ℕ). HasPair s from z v) e p) in
            subst (λ (z : ℕ). IsFollowed written from z v) (sym e)
            (subst (IsFollowed written from row) same row_followed)
        | inr ne ↦ still_followed from y v from_not ne f
      ];
      settled = new.settled;
      only = was_settled;
      kept = record { nodes = refl; rows = refl; started = refl; next = refl; edges = refl };
    }
