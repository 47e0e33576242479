-- Settled rows have the least cost: a path to another row costs no less than the cheapest row that waits.
use Rattle.std.proofs.Common.{◌≡◌, ◌≢◌, ℕ, ◌+◌, ◌<◌, ◌≤◌, ◌==◌, true, ◌⊎◌, inl, inr, List, [], ◌∷◌, length, unwrap_or}
use Rattle.std.proofs.Common.{Option, Some, None, sym, ap, ◌∙◌, subst, arith}
use Rattle.std.proofs.lemmas.Bool.{cases_eq, eqb-true}
use Rattle.std.proofs.lemmas.List.Sums.{count_by-le-length}
use Rattle.graph_kinds.specs.Graph.{Graph, has, weight_of}
use Rattle.graph_kinds.specs.Path.{IsPath, cost_of, IsLeastCost, least_cost, LeadsOver, IsKeyBefore}
use Rattle.graph_kinds.proofs.PathsWalks.{weight_there}
use Rattle.graph_kinds.proofs.CostsLeast.{some_least, least_some, empty_none}
use Rattle.scan_record.specs.declared.rows.VertexRow.{VertexRow}
use Rattle.scan_record.specs.Asked.{root_of}
use Rattle.scan_record.specs.Scan.{ScanValue, IsScan, IsComplete, new_row, blank_life}
use Rattle.scan_record.specs.ScanGraph.{graph_of_scan}
use Rattle.scan_record.proofs.GraphOfScan.{keys_law}
use Rattle.scan_record.proofs.FoundItems.{any_place}
use Rattle.scan_record.proofs.ScanFacts.{row_key}
use Rattle.path_costs.specs.Heap.{states_of, state_of}
use Rattle.path_costs.specs.Search.{key_of_row, row_cost, parent_of, HasPair, IsFollowed, HasParent, IsReached}
use Rattle.path_costs.specs.Search.{IsSearchBut, IsSearch, IsOpen, IsSettledTree}
use Rattle.path_costs.proofs.HeapPlaces.{length-states_of, state_at}
use Rattle.path_costs.proofs.EdgePairs.{same_row}

-- a key of the graph is the key of a row
pub row_there : (s : ScanValue) (key : ℕ) → has (graph_of_scan s) key ≡ true → (r : ℕ) × (r < length s.rows) ×
    (key_of_row s r ≡ key)
row_there s key h =
    let r = any_place (λ (row : VertexRow). row.key == key) (new_row blank_life 0) s.rows (sym (keys_law s key) ∙ h) in
    (r.0, r.1, eqb-true (key_of_row s r.0) key r.2)

-- a row that is met is settled or waits
met_cases : (s : ScanValue) → IsScan s → (r : ℕ) → r < length s.rows → 1 ≤ state_of s r → (state_of s r ≡ 1) ⊎
    (state_of s r ≡ 2)
met_cases s scan r h met = elim (cases_eq (state_of s r) 1) as (λ _. (state_of s r ≡ 1) ⊎ (state_of s r ≡ 2)) [
  | inl e ↦ inl e
  | inr ne ↦ inr (omega (arith, state_at s scan r h, met, ne))
]

-- a settled row has the key, and costs no more than c
pub record IsThere (s : ScanValue) (key c : ℕ) : Type 0 where
  pub row : ℕ
  pub inside : row < length s.rows
  pub named : key_of_row s row ≡ key
  pub settled : state_of s row ≡ 1
  pub cheap : row_cost s row ≤ c

there_at : (s : ScanValue) (key c d : ℕ) → c ≤ d → IsThere s key c → IsThere s key d
there_at s key c d le t = record {
  row = t.row;
  inside = t.inside;
  named = t.named;
  settled = t.settled;
  cheap = omega
      (arith, t.cheap, le);
}

module _ (s : ScanValue) (scan : IsScan s) (open_row far : ℕ) (now : IsSearchBut s open_row)
    (outside : (x : ℕ) → x < length s.rows → (state_of s x ≡ 2) ⊎ (x ≡ open_row) → far ≤ row_cost s x) where
  -- what a path from a row that is met comes to: a settled row that costs no more, or a cost that is far
  abbrev ComesTo : ℕ → ℕ → Type 0
  ComesTo key c = IsThere s key c ⊎ (far ≤ c)

  ends_at : (key c d : ℕ) → c ≤ d → ComesTo key c → ComesTo key d
  ends_at key c d le (inl t) = inl (there_at s key c d le t)
  ends_at key c d le (inr f) = inr (omega (arith, f, le))

  -- a row at which a path needn't be looked at further
  row_outside : (x : ℕ) → x < length s.rows → 1 ≤ state_of s x → ((state_of s x ≡ 1) × (x ≢ open_row)) ⊎
      (far ≤ row_cost s x)
  row_outside x h met = elim (met_cases s scan x h met) as (λ _. ((state_of s x ≡ 1) × (x ≢ open_row)) ⊎
      (far ≤ row_cost s x)) [
        | inl one ↦ elim (cases_eq x open_row) as (λ _. ((state_of s x ≡ 1) × (x ≢ open_row)) ⊎ (far ≤ row_cost s x)) [
          | inl e ↦ inr (outside x h (inr e))
          | inr ne ↦ inl (one, ne)
        ]
        | inr two ↦ inr (outside x h (inl two))
      ]

  pub path_ends : (key : ℕ) (p : List ℕ) (x : ℕ) → x < length s.rows → 1 ≤ state_of s x → IsPath (graph_of_scan s)
      (key_of_row s x) key p → ComesTo key (row_cost s x + cost_of (graph_of_scan s) p)
  path_ends key [] x h met k = absurd k
  path_ends key (z ∷ []) x h met k = elim (row_outside x h met) as (λ _. ComesTo key (row_cost s x + 0)) [
    | inl one ↦ inl (record { row = x; inside = h; named = sym k.0 ∙ k.1; settled = one.0; cheap = omega arith })
    | inr f ↦ inr (omega (arith, f))
  ]
  path_ends key (z ∷ u ∷ p) x h met k =
      let g : Graph = graph_of_scan s in
      let w = weight_there (weight_of g z u) k.1 in
      let pair : weight_of g (key_of_row s x) u ≡ Some w.0 = subst (λ (y : ℕ). weight_of g y u ≡ Some w.0) k.0 w.1 in
      let r = row_there s u (now.graph.to_key (key_of_row s x) u w.0 pair) in
      let weight : unwrap_or (weight_of g z u) 0 ≡ w.0 = ap (λ (o : Option ℕ). unwrap_or o 0) w.1 in
      elim (row_outside x h met) as (λ _. ComesTo key (row_cost s x + cost_of g (z ∷ u ∷ p))) [
        | inl one ↦
            let f : IsFollowed s x r.0 w.0 = now.followed x r.0 w.0 h r.1 one.0 one.1
            (subst (λ (y : ℕ). weight_of g (key_of_row s x) y ≡ Some w.0) (sym r.2) pair) in
            let later : ComesTo key (row_cost s r.0 + cost_of g (u ∷ p)) = path_ends key (u ∷ p) r.0 r.1 f.met
            (subst (λ (y : ℕ). IsPath g y key (u ∷ p)) (sym r.2) k.2) in
            ends_at key (row_cost s r.0 + cost_of g (u ∷ p)) (row_cost s x + cost_of g (z ∷ u ∷ p))
            (omega (arith, f.cost, weight)) later
        | inr f ↦ inr (omega (arith, f))
      ]

-- where no row waits, no path leads to a key that no settled row has
pub nowhere : (s : ScanValue) → IsScan s → IsComplete s → IsSearch s →
    ((r : ℕ) → r < length s.rows → state_of s r ≡ 2 → ⊥) → (goal : ℕ) →
    ((r : ℕ) → r < length s.rows → state_of s r ≡ 1 → key_of_row s r ≢ goal)
    → least_cost (graph_of_scan s) (root_of s) goal ≡ None
nowhere s scan is now none goal others = empty_none (graph_of_scan s) (root_of s) goal now.graph
    (row_key s 0 is.has_root) (λ p h. no_path p h)
  where
    no_path : (p : List ℕ) → IsPath (graph_of_scan s) (root_of s) goal p → ⊥
    no_path p h =
        let far : ℕ = row_cost s 0 + cost_of (graph_of_scan s) p + 1 in
        elim (path_ends s scan (length s.rows) far now outside goal p 0 is.has_root now.root h) as (λ _. ⊥) [
          | inl t ↦ others t.row t.inside t.settled t.named
          | inr f ↦ absurd (omega (arith, f))
        ]
      where
        outside : (x : ℕ) → x < length s.rows → (state_of s x ≡ 2) ⊎ (x ≡ length s.rows) → row_cost s 0 + cost_of
            (graph_of_scan s) p + 1 ≤ row_cost s x
        outside x l (inl two) = absurd (none x l two)
        outside x l (inr e) = absurd (omega (arith, l, e))

module _ (s : ScanValue) (scan : IsScan s) (is : IsComplete s) (last : ℕ) (now : IsOpen s last) where
  g : Graph
  g = graph_of_scan s

  root_key : has (graph_of_scan s) (root_of s) ≡ true
  root_key = row_key s 0 is.has_root

  outside : (x : ℕ) → x < length s.rows → (state_of s x ≡ 2) ⊎ (x ≡ last) → row_cost s last ≤ row_cost s x
  outside x h (inl two) = now.search.ordered last x now.row h now.settled two
  outside x h (inr e) = omega (arith, ap (row_cost s) e)

  -- what a path from the root comes to
  from_root : (key : ℕ) (p : List ℕ) → IsPath (graph_of_scan s) (root_of s) key p → IsThere s key
      (cost_of (graph_of_scan s) p) ⊎ (row_cost s last ≤ cost_of (graph_of_scan s) p)
  from_root key p h =
      let none : row_cost s 0 + cost_of (graph_of_scan s) p ≡ cost_of (graph_of_scan s) p = omega
      (arith, now.search.root_cost) in
      subst (λ (c : ℕ). IsThere s key c ⊎ (row_cost s last ≤ c)) none
      (path_ends s scan last (row_cost s last) now.search outside key p 0 is.has_root now.search.root h)

  least_there : (y : ℕ) → y < length s.rows → state_of s y ≡ 1 → (p : List ℕ) → IsPath (graph_of_scan s) (root_of s)
      (key_of_row s y) p → row_cost s y ≤ cost_of (graph_of_scan s) p
  least_there y h e p k = elim (from_root (key_of_row s y) p k) as (λ _. row_cost s y ≤ cost_of (graph_of_scan s) p) [
    | inl t ↦ let same : t.row ≡ y = same_row s is t.row y t.inside h t.named in omega
        (arith, t.cheap, ap (row_cost s) same)
    | inr f ↦ omega (arith, f, now.last y h e)
  ]

  costs : (y : ℕ) → y < length s.rows → state_of s y ≡ 1 → least_cost (graph_of_scan s) (root_of s)
      (key_of_row s y) ≡ Some (row_cost s y)
  costs y h e =
      let r : IsReached s y = now.search.reached y h (omega (arith, e)) in
      least_some (graph_of_scan s) (root_of s) (key_of_row s y) now.search.graph root_key (row_cost s y)
      (record { path = r.path; is_path = r.is_path; cost = r.cost; least = least_there y h e })

  module _ (y : ℕ) (pos : 0 < y) (h : y < length s.rows) (e : state_of s y ≡ 1) where
    parent : HasParent s y
    parent = now.search.parents y pos h (omega (arith, e))

    parent_leads : LeadsOver (graph_of_scan s) (root_of s) (key_of_row s (parent_of s y)) (key_of_row s y)
    parent_leads = record {
      cost = row_cost s (parent_of s y);
      weight = parent.weight;
      to_x = costs (parent_of s y) parent.row parent.settled;
      pair = parent.pair;
      to_y = costs y h e ∙ ap (λ (c : ℕ). Some c) (sym parent.total);
    }

    -- the parent's key is the least over which a cheapest way leads
    parent_least : (z : ℕ) → LeadsOver (graph_of_scan s) (root_of s) z (key_of_row s y) → key_of_row s
        (parent_of s y) ≤ z
    parent_least z l =
        let best : IsLeastCost (graph_of_scan s) (root_of s) z l.cost = some_least (graph_of_scan s)
        (root_of s) z now.search.graph root_key l.cost l.to_x in
        let total : l.cost + l.weight ≡ row_cost s y = ap (λ (o : Option ℕ). unwrap_or o 0)
        (sym l.to_y ∙ costs y h e) in
        let some : 1 ≤ l.weight = now.search.graph.weighed z (key_of_row s y) l.weight l.pair in
        elim (from_root z best.path best.is_path) as (λ _. key_of_row s (parent_of s y) ≤ z) [
          | inl t ↦ over t.row t.inside t.named t.settled (omega (arith, t.cheap, best.cost)) total some
          | inr f ↦ absurd (omega (arith, f, best.cost, total, some, now.last y h e))
        ]
      where
        over : (r : ℕ) → r < length s.rows → key_of_row s r ≡ z → state_of s r ≡ 1 → row_cost s r ≤ l.cost
            → l.cost + l.weight ≡ row_cost s y → 1 ≤ l.weight → key_of_row s (parent_of s y) ≤ z
        over r inside named settled cheap total some =
            let pair : HasPair s r y l.weight = subst (λ (k : ℕ). weight_of (graph_of_scan s) k
            (key_of_row s y) ≡ Some l.weight) (sym named) l.pair in
            elim (cases_eq r last) as (λ _. key_of_row s (parent_of s y) ≤ z) [
              | inl same ↦ absurd (omega (arith, now.last y h e, ap (row_cost s) same, cheap, total, some))
              | inr other ↦
                  let f : IsFollowed s r y l.weight = now.search.followed r y l.weight inside h settled other pair in
                  let tie : row_cost s y ≡ row_cost s r + l.weight = omega (arith, f.cost, cheap, total) in
                  subst (λ (k : ℕ). key_of_row s (parent_of s y) ≤ k) named (f.least pos tie)
            ]

    parent_before : IsKeyBefore (graph_of_scan s) (root_of s) (key_of_row s (parent_of s y)) (key_of_row s y)
    parent_before = record { leads = parent_leads; least = parent_least }

  pub settled_tree : IsSettledTree s
  settled_tree = record {
    graph = now.search.graph;
    costs = costs;
    parents = λ y pos h e. (parent y pos h e, parent_before y pos h e);
    below = λ y h e.
        let few = count_by-le-length (λ v. v == 1) (states_of s) in
        omega (
          arith,
          now.search.below y h (omega (arith, e)),
          few,
          length-states_of s scan,
          scan.rows_fit,
          scan.few_nodes,
        );
  }
