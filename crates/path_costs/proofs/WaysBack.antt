-- The way back from a settled row by parents is a path by the least keys.
use Rattle.std.proofs.Common.{◌≡◌, ℕ, suc, ◌<◌, ◌≤◌, inl, inr, List, [], ◌∷◌, length, take, reverse, unwrap_or, Option}
use Rattle.std.proofs.Common.{Some, is_some, refl, sym, ap, ◌∙◌, arith, length-take-le}
use Rattle.std.proofs.lemmas.List.{length-reverse}
use Rattle.graph_kinds.specs.Path.{IsPath, least_cost, IsKeyBefore, GoesByLeastKeys}
use Rattle.graph_kinds.proofs.PathsLists.{In, Once, few}
use Rattle.graph_kinds.proofs.PathsWalks.{path_keys}
use Rattle.scan_record.specs.Asked.{root_of}
use Rattle.scan_record.specs.Scan.{ScanValue}
use Rattle.scan_record.specs.ScanGraph.{graph_of_scan}
use Rattle.scan_record.proofs.ScanFacts.{row_key, few_keys}
use Rattle.path_costs.specs.Heap.{state_of}
use Rattle.path_costs.specs.Search.{key_of_row, row_cost, parent_of, HasParent, IsSettledTree}

-- the way from a settled row to the goal, whose later keys cost more
pub record IsWayBack (s : ScanValue) (goal at : ℕ) (later : List ℕ) : Type 0 where
  pub row : at < length s.rows
  pub settled : state_of s at ≡ 1
  pub path : IsPath (graph_of_scan s) (key_of_row s at) goal (key_of_row s at ∷ later)
  pub least : GoesByLeastKeys (graph_of_scan s) (root_of s) (key_of_row s at ∷ later)
  pub once : Once later
  pub dearer : (z : ℕ) → In z later → (c : ℕ) × (least_cost (graph_of_scan s) (root_of s) z ≡ Some c) ×
      (row_cost s at < c)

pub way_first : (s : ScanValue) (row : ℕ) → row < length s.rows → state_of s row ≡ 1 → IsWayBack s
    (key_of_row s row) row []
way_first s row h e = record {
  row = h;
  settled = e;
  path = (refl, refl, row_key s row h);
  least = tt;
  once = tt;
  dearer
      = λ z k. absurd k;
}

module _ (s : ScanValue) (tree : IsSettledTree s) (goal at : ℕ) (later : List ℕ) (now : IsWayBack s goal at later) where
  -- the key itself costs less than the later ones
  new_key : In (key_of_row s at) later → ⊥
  new_key k =
      let r = now.dearer (key_of_row s at) k in
      let same : row_cost s at ≡ r.0 = ap (λ (o : Option ℕ). unwrap_or o (row_cost s at))
      (sym (tree.costs at now.row now.settled) ∙ r.1) in
      absurd (omega (arith, same, r.2))

  -- so there are no more keys than rows
  pub way_few : suc (length later) ≤ length s.rows
  way_few =
      let all = few (graph_of_scan s).keys (key_of_row s at ∷ later) (new_key, now.once)
      (path_keys (graph_of_scan s) (key_of_row s at) goal (key_of_row s at ∷ later) tree.graph now.path) in
      omega (arith, all, few_keys s)

  module _ (pos : 0 < at) where
    parent : HasParent s at × IsKeyBefore (graph_of_scan s) (root_of s) (key_of_row s (parent_of s at))
        (key_of_row s at)
    parent = tree.parents at pos now.row now.settled

    pub parent_cheaper : row_cost s (parent_of s at) < row_cost s at
    parent_cheaper = omega (
      arith,
      parent.0.total,
      tree.graph.weighed (key_of_row s (parent_of s at))
          (key_of_row s at) parent.0.weight parent.0.pair,
    )

    pub way_next : IsWayBack s goal (parent_of s at) (key_of_row s at ∷ later)
    way_next = record {
      row = parent.0.row;
      settled = parent.0.settled;
      path = (refl, ap (λ (o : Option ℕ). is_some o) parent.0.pair, now.path);
      least = (parent.1, now.least);
      once = (new_key, now.once);
      dearer = λ z k. elim k as (λ _. (c : ℕ) × (least_cost (graph_of_scan s) (root_of s) z ≡ Some c) ×
          (row_cost s (parent_of s at) < c)) [
            | inl e ↦ (
              row_cost s at,
              ap (least_cost (graph_of_scan s) (root_of s)) (sym e)
                  ∙ tree.costs at now.row now.settled,
              parent_cheaper,
            )
            | inr l ↦ let r = now.dearer z l in (r.0, r.1, omega (arith, r.2, parent_cheaper))
          ];
    }

-- as many are gathered as are counted
pub gathered_long : (slot : List ℕ) (n : ℕ) → n ≤ length slot → length (reverse (take n slot)) ≡ n
gathered_long slot n le = length-reverse (take n slot) ∙ length-take-le n slot le

-- a place is left for one key more
pub way_room : (s : ScanValue) (goal at : ℕ) (slot : List ℕ) (n : ℕ) → IsSettledTree s → length slot ≡ length s.rows
    → n ≤ length s.rows → IsWayBack s goal at (reverse (take n slot)) → n < length s.rows
way_room s goal at slot n tree long le now = omega (
  arith,
  gathered_long slot n
      (omega (arith, long, le)),
  way_few s tree goal at (reverse (take n slot)) now,
)
