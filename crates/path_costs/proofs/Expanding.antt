-- The pairs of the row settled last are followed edge by edge.
use Rattle.std.proofs.Common.{◌≡◌, ℕ, ◌+◌, ◌<◌, ◌≤◌, inl, inr, List, length, get_or, Option, Some, None, refl, sym, ap}
use Rattle.std.proofs.Common.{ap₂, ◌∙◌, subst, arith}
use Rattle.std.proofs.lemmas.Bool.{cases_eq}
use Rattle.graph_kinds.specs.Graph.{Graph, weight_of}
use Rattle.scan_record.specs.declared.rows.EdgeRow.{EdgeRow}
use Rattle.scan_record.specs.declared.rows.VertexRow.{VertexRow}
use Rattle.scan_record.specs.Asked.{KeepsRows}
use Rattle.scan_record.specs.Scan.{ScanValue, IsScan, IsComplete, blank_edge, row_at, edge_at}
use Rattle.scan_record.specs.ScanGraph.{graph_of_scan}
use Rattle.scan_record.proofs.ScanFacts.{graph_kept, rows_kept, kept_same, kept_on}
use Rattle.path_costs.specs.Heap.{state_of, settled_count}
use Rattle.path_costs.specs.Search.{key_of_row, HasPair, IsFollowed, IsSearch, IsOpen, FollowsPair}
use Rattle.path_costs.proofs.EdgePairs.{IsEdge, within, edge_pair, pair_edge}

-- a pair stays where the rows stay
pub pair_kept : (old s : ScanValue) → KeepsRows old s → (x y w : ℕ) → HasPair s x y w → HasPair old x y w
pair_kept old s kept x y w pair =
    ap (λ (g : Graph). weight_of g (key_of_row old x) (key_of_row old y)) (sym (graph_kept old s kept))
    ∙ (ap₂ (λ (j k : ℕ). weight_of (graph_of_scan s) j k) (ap (λ (v : VertexRow). v.key) (sym (rows_kept old s kept x)))
    (ap (λ (v : VertexRow). v.key) (sym (rows_kept old s kept y))) ∙ pair)

pub pair_there : (old s : ScanValue) → KeepsRows old s → (x y w : ℕ) → HasPair old x y w → HasPair s x y w
pair_there old s kept x y w pair =
    ap (λ (g : Graph). weight_of g (key_of_row s x) (key_of_row s y)) (graph_kept old s kept)
    ∙ (ap₂ (λ (j k : ℕ). weight_of (graph_of_scan old) j k) (ap (λ (v : VertexRow). v.key) (rows_kept old s kept x))
    (ap (λ (v : VertexRow). v.key) (rows_kept old s kept y)) ∙ pair)

pub rows_long : (old s : ScanValue) → KeepsRows old s → length s.rows ≡ length old.rows
rows_long old s kept = ap (λ (rows : List VertexRow). length rows) kept.rows

-- the edges of a row were followed up to a place
pub record IsRelaxing (old s : ScanValue) (from place : ℕ) : Type 0 where
  pub kept : KeepsRows old s
  pub open_row : IsOpen s from
  pub settled : settled_count s ≡ settled_count old
  pub only : (y : ℕ) → state_of s y ≡ 1 → state_of old y ≡ 1
  pub followed : (p t : ℕ) → (row_at old from).first ≤ p → p < place → p < (row_at old from).first +
      (row_at old from).count → (edge_at old p).target ≡ Some t
      → IsFollowed s from t (edge_at old p).weight

pub expanding_first : (s : ScanValue) (from place : ℕ) → IsOpen s from → place ≡ (row_at s from).first
    → IsRelaxing s s from place
expanding_first s from place o e = record {
  kept = kept_same s;
  open_row = o;
  settled = refl;
  only = λ y f. f;
  followed
      = λ p t low lt. absurd (omega (arith, low, lt, e));
}

module _ (old : ScanValue) (scan : IsScan old) (is : IsComplete old) (from : ℕ) (h : from < length old.rows)
    (s : ScanValue) (place : ℕ) (now : IsRelaxing old s from place) where
  module _ (low : (row_at old from).first ≤ place) (high : place < (row_at old from).first + (row_at old from).count)
    where
      pub edge_within : place < length s.edges
      edge_within = subst (λ (es : List EdgeRow). place < length es) (sym now.kept.edges)
          (within old scan is from h place high)

      same_edge : edge_at s place ≡ edge_at old place
      same_edge = ap (λ (es : List EdgeRow). get_or es place blank_edge) now.kept.edges

      -- one edge more
      step : (new : ScanValue) → IsOpen new from → settled_count new ≡ settled_count s →
          ((y : ℕ) → state_of new y ≡ 1 → state_of s y ≡ 1) → KeepsRows s new
          → ((y w : ℕ) → y < length s.rows → HasPair s from y w → IsFollowed s from y w → IsFollowed new from y w)
          → ((t : ℕ) → (edge_at old place).target ≡ Some t → IsFollowed new from t (edge_at old place).weight)
          → IsRelaxing old new from (place + 1)
      step new o settled only kept earlier here = record {
        kept = kept_on old s new now.kept kept;
        open_row = o;
        settled = settled ∙ now.settled;
        only = λ y f. now.only y (only y f);
        followed = λ p t l lt up e. elim (cases_eq p place) as (λ _. IsFollowed new from t (edge_at old p).weight) [
          | inl same ↦ subst (λ (q : ℕ). IsFollowed new from t (edge_at old q).weight) (sym same)
              (here t (subst (λ (q : ℕ). (edge_at old q).target ≡ Some t) same e))
          | inr ne ↦
              let before : p < place = omega (arith, lt, ne) in
              let pair = pair_there old s now.kept from t (edge_at old p).weight
              (edge_pair old scan is from h p t l up e) in
              let there : t < length s.rows = omega (
                arith,
                rows_long old s now.kept,
                scan.targets_are_rows p t
                    (within old scan is from h p up) e,
              ) in
              earlier t (edge_at old p).weight there pair (now.followed p t l before up e)
        ];
      }

      pub expanding_none : (edge_at s place).target ≡ None → IsRelaxing old s from (place + 1)
      expanding_none none =
          let old_none : (edge_at old place).target ≡ None = ap (λ (e : EdgeRow). e.target) (sym same_edge) ∙ none in
          step s now.open_row refl (λ y f. f) (kept_same s) (λ y w _ _ f. f)
          (λ t e. absurd (nothing (edge_at old place).target t old_none e))
        where
          nothing : (o : Option ℕ) (t : ℕ) → o ≡ None → o ≡ Some t → ⊥
          nothing o t a b = cc

      module _ (t : ℕ) (target : (edge_at s place).target ≡ Some t) where
        old_target : (edge_at old place).target ≡ Some t
        old_target = ap (λ (e : EdgeRow). e.target) (sym same_edge) ∙ target

        pub target_within : t < length s.rows
        target_within = omega (
          arith,
          rows_long old s now.kept,
          scan.targets_are_rows place t
              (within old scan is from h place high) old_target,
        )

        pub target_pair : HasPair s from t (edge_at s place).weight
        target_pair = subst (λ (e : EdgeRow). HasPair s from t e.weight) (sym same_edge)
            (pair_there old s now.kept from t (edge_at old place).weight
            (edge_pair old scan is from h place t low high old_target))

        pub expanding_some : (new : ScanValue) → FollowsPair s new from t (edge_at s place).weight
            → IsRelaxing old new from (place + 1)
        expanding_some new f =
            step new f.open_row f.settled f.only f.kept f.earlier
            (λ u e. let same : t ≡ u = cc (old_target, e) in
            subst (λ (v : ℕ). IsFollowed new from v (edge_at old place).weight) same
            (subst (λ (e : EdgeRow). IsFollowed new from t e.weight) same_edge f.followed))

  -- all edges were followed
  pub expanded : (row_at old from).first + (row_at old from).count ≤ place → IsSearch s
  expanded end = record {
    graph = now.open_row.search.graph;
    root = now.open_row.search.root;
    root_cost = now.open_row.search.root_cost;
    reached = now.open_row.search.reached;
    parents = now.open_row.search.parents;
    ordered = now.open_row.search.ordered;
    below = now.open_row.search.below;
    followed = λ x y w l k e ne p. elim (cases_eq x from) as (λ _. IsFollowed s x y w) [
      | inl same ↦
          let pair : HasPair old from y w = pair_kept old s now.kept from y w
          (subst (λ (z : ℕ). HasPair s z y w) same p) in
          let edge : IsEdge old from y w = pair_edge old scan is from h y w
          (omega (arith, rows_long old s now.kept, k)) pair in
          subst (λ (z : ℕ). IsFollowed s z y w) (sym same)
          (subst (IsFollowed s from y) edge.weight (now.followed edge.place y edge.low
          (omega (arith, edge.high, end)) edge.high edge.target))
      | inr other ↦ now.open_row.search.followed x y w l k e other p
    ];
  }
