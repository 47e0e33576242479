-- Keys are met edge by edge as the out-neighbours of a row's key.
use Rattle.std.proofs.Common.{◌≡◌, ℕ, ◌+◌, ◌-◌, ◌<◌, ◌≤◌, true, not, inl, inr, List, [], ◌∷◌, ◌++◌, length, take, drop}
use Rattle.std.proofs.Common.{get_or, filter, option_map, Option, Some, None, refl, sym, ap, ◌∙◌, subst, arith}
use Rattle.std.proofs.Common.{length-append, length-drop, length-take-le}
use Rattle.std.specs.List.{cons_option}
use Rattle.std.proofs.lemmas.List.{get_or-take, get_or-drop, take_more, take_all, get_or_append_left}
use Rattle.std.proofs.lemmas.Bool.{cases_lt}
use Rattle.std.proofs.lemmas.List.Elements.{filter_map-append}
use Rattle.graph_kinds.specs.Graph.{Graph, neighbours}
use Rattle.graph_kinds.specs.Levels.{stands_in, firsts_of}
use Rattle.graph_kinds.proofs.PathsLists.{In, in_place, stands}
use Rattle.graph_kinds.proofs.PathsWalks.{in_neighbours, neighbours_in}
use Rattle.scan_record.specs.declared.rows.EdgeRow.{EdgeRow}
use Rattle.scan_record.specs.declared.rows.VertexRow.{VertexRow}
use Rattle.scan_record.specs.Scan.{ScanValue, IsScan, IsComplete, blank_edge, row_at, edge_at, edges_of}
use Rattle.scan_record.specs.ScanGraph.{graph_of_scan, target_key, target_keys}
use Rattle.path_levels.specs.Queue.{leads, with_met, with_all}
use Rattle.path_levels.specs.Search.{KeepsRowsAndCosts, IsQueue}
use Rattle.path_levels.proofs.MetLists.{with_all-append, with_all-firsts, all_met}
use Rattle.scan_record.proofs.ScanFacts.{row_neighbours, graph_kept, rows_kept}
use Rattle.path_levels.proofs.KeptScans.{all_kept_on, all_kept_same}

in_targets : (edge : EdgeRow) (y : ℕ) (edges : List EdgeRow) → In edge edges → target_key edge ≡ Some y → In y
    (target_keys edges)
in_targets edge y [] h e = absurd h
in_targets edge y (x ∷ xs) (inl same) e = subst (λ (o : Option ℕ). In y (cons_option o (target_keys xs)))
    (sym (ap target_key same ∙ e)) (inl refl)
in_targets edge y (x ∷ xs) (inr h) e = elim (target_key x) as
    (λ o. In y (cons_option o (target_keys xs))) [
      | None ↦ in_targets edge y xs h e
      | Some z ↦ inr
          (in_targets edge y xs h e)
    ]

module _ (s : ScanValue) (scan : IsScan s) (is : IsComplete s) (r : ℕ) (h : r < length s.rows) where
  edges_long : length (edges_of s (row_at s r)) ≡ (row_at s r).count
  edges_long = let fits = scan.edges_end r h in length-take-le (row_at s r).count (drop (row_at s r).first s.edges)
      (omega (arith, fits, length-drop (row_at s r).first s.edges))

  edge_there : (p : ℕ) → (row_at s r).first ≤ p → p < (row_at s r).first + (row_at s r).count → get_or
      (edges_of s (row_at s r)) (p - (row_at s r).first) blank_edge ≡ edge_at s p
  edge_there p low high =
      let back : (row_at s r).first + (p - (row_at s r).first) ≡ p = omega arith in
      get_or-take (row_at s r).count (drop (row_at s r).first s.edges) (p - (row_at s r).first) blank_edge (omega arith)
      ∙ (get_or-drop (row_at s r).first s.edges (p - (row_at s r).first) blank_edge ∙ ap (edge_at s) back)

  -- one edge more
  pub met_more : (queue : List ℕ) (p : ℕ) → (row_at s r).first ≤ p → p < (row_at s r).first + (row_at s r).count
      → with_all queue (target_keys (take (p + 1 - (row_at s r).first) (edges_of s (row_at s r)))) ≡ with_all
      (with_all queue (target_keys (take (p - (row_at s r).first) (edges_of s (row_at s r)))))
      (target_keys (edge_at s p ∷ []))
  met_more queue p low high =
      let j = p - (row_at s r).first in
      let next : p + 1 - (row_at s r).first ≡ j + 1 = omega arith in
      let more : take (j + 1) (edges_of s (row_at s r)) ≡ take j (edges_of s (row_at s r)) ++ edge_at s p ∷ [] =
      take_more (edges_of s (row_at s r)) j blank_edge (omega (arith, edges_long)) ∙ ap
      (λ (e : EdgeRow). take j (edges_of s (row_at s r)) ++ e ∷ []) (edge_there p low high) in
      ap (λ (n : ℕ). with_all queue (target_keys (take n (edges_of s (row_at s r))))) next
      ∙ (ap (λ (es : List EdgeRow). with_all queue (target_keys es)) more
      ∙ (ap (with_all queue) (filter_map-append target_key (take j (edges_of s (row_at s r))) (edge_at s p ∷ []))
      ∙ with_all-append queue (target_keys (take j (edges_of s (row_at s r)))) (target_keys (edge_at s p ∷ []))))

  pub within : (p : ℕ) → p < (row_at s r).first + (row_at s r).count → p < length s.edges
  within p high = let fits = scan.edges_end r h in omega arith

  target_of : (p t : ℕ) → p < (row_at s r).first + (row_at s r).count → (edge_at s p).target ≡ Some t → target_key
      (edge_at s p) ≡ Some (row_at s t).key
  target_of p t high e = ap (λ (o : Option ℕ). option_map (λ _. (edge_at s p).key) o) e ∙ ap (λ (k : ℕ). Some k)
      (sym (is.target_keys p t (within p high) e))

  pub met_target : (queue : List ℕ) (p t : ℕ) → p < (row_at s r).first + (row_at s r).count →
      (edge_at s p).target ≡ Some t → with_all queue (target_keys (edge_at s p ∷ [])) ≡ with_met queue (row_at s t).key
  met_target queue p t high e = ap (λ (o : Option ℕ). with_all queue (cons_option o [])) (target_of p t high e)

  pub met_nothing : (queue : List ℕ) (p : ℕ) → (edge_at s p).target ≡ None → with_all queue
      (target_keys (edge_at s p ∷ [])) ≡ queue
  met_nothing queue p e = ap (λ (o : Option ℕ). with_all queue (cons_option (option_map (λ _. (edge_at s p).key) o) []))
      e

  pub leads_there : (p t : ℕ) → (row_at s r).first ≤ p → p < (row_at s r).first + (row_at s r).count →
      (edge_at s p).target ≡ Some t → leads (graph_of_scan s) (row_at s t).key (row_at s r).key ≡ true
  leads_there p t low high e =
      let place = in_place (edges_of s (row_at s r)) (p - (row_at s r).first) blank_edge (omega (arith, edges_long)) in
      let there : In (edge_at s p) (edges_of s (row_at s r)) = subst (λ (x : EdgeRow). In x (edges_of s (row_at s r)))
      (edge_there p low high) place in
      let target = in_targets (edge_at s p) (row_at s t).key (edges_of s (row_at s r)) there (target_of p t high e) in
      neighbours_in (graph_of_scan s) (row_at s r).key (row_at s t).key
      (subst (In (row_at s t).key) (sym (row_neighbours s r scan is h)) target)

  -- all edges
  pub met_all : (queue : List ℕ) (p : ℕ) → (row_at s r).first + (row_at s r).count ≤ p → with_all queue
      (target_keys (take (p - (row_at s r).first) (edges_of s (row_at s r)))) ≡ with_all queue
      (neighbours (graph_of_scan s) (row_at s r).key)
  met_all queue p end =
      let all : take (p - (row_at s r).first) (edges_of s (row_at s r)) ≡ edges_of s (row_at s r) = take_all
      (p - (row_at s r).first) (edges_of s (row_at s r)) (omega (arith, edges_long)) in
      ap (λ (es : List EdgeRow). with_all queue (target_keys es)) all ∙ ap (with_all queue)
      (sym (row_neighbours s r scan is h))

-- a place is done where the out-neighbours of its key were met
pub one_done : (s : ScanValue) (place : ℕ) (queue : List ℕ) → IsQueue s place → s.keys ≡ with_all queue
    (neighbours (graph_of_scan s) (get_or s.keys place 0)) → IsQueue s (place + 1)
one_done s place queue q all = record {
  once = q.once;
  rows = q.rows;
  keys = q.keys;
  parents = q.parents;
  met = q.met;
  closed = λ p y lt l e. elim (cases_lt p place) as (λ _. stands_in s.keys y ≡ true) [
    | inl before ↦ q.closed p y before l e
    | inr le ↦
        let now : p ≡ place = omega (arith, lt, le) in
        let next : In y (neighbours (graph_of_scan s) (get_or s.keys place 0)) = in_neighbours (graph_of_scan s)
        (get_or s.keys place 0) y (subst (λ (j : ℕ). leads (graph_of_scan s) y (get_or s.keys j 0) ≡ true) now e) in
        stands s.keys y (subst (In y) (sym all) (all_met queue
        (neighbours (graph_of_scan s) (get_or s.keys place 0)) y next))
  ];
}

-- the queue keeps its keys and their places
pub with_all-front : (queue ys : List ℕ) (p : ℕ) → p < length queue → (p < length (with_all queue ys)) ×
    (get_or (with_all queue ys) p 0 ≡ get_or queue p 0)
with_all-front queue ys p lt =
    let new = firsts_of (filter (λ y. not (stands_in queue y)) ys) in
    let grown = with_all-firsts queue ys in (
      omega (arith, lt, ap (λ (xs : List ℕ). length xs) grown, length-append queue new),
      ap
          (λ (xs : List ℕ). get_or xs p 0) grown ∙ get_or_append_left queue new 0 p lt,
    )

-- the row at a place of the queue
abbrev pub place_row : ScanValue → ℕ → ℕ
place_row s place = get_or s.slot_zero place 0

-- the edges of the row at a place were met up to one of them
pub record IsExpanding (old s : ScanValue) (place p : ℕ) : Type 0 where
  pub kept : KeepsRowsAndCosts old s
  pub ends : s.ends ≡ old.ends
  pub queue : IsQueue s place
  pub there : place < length s.keys
  pub key : get_or s.keys place 0 ≡ get_or old.keys place 0
  pub keys : s.keys ≡ with_all old.keys (target_keys (take (p - (row_at old (place_row old place)).first)
      (edges_of old (row_at old (place_row old place)))))

pub expanding_first : (s : ScanValue) (place p : ℕ) → IsQueue s place → place < length s.keys → p ≡
    (row_at s (place_row s place)).first → IsExpanding s s place p
expanding_first s place p q lt e =
    let none : p - (row_at s (place_row s place)).first ≡ 0 = omega (arith, e) in
    record {
      kept = all_kept_same s;
      ends = refl;
      queue = q;
      there = lt;
      key = refl;
      keys = ap (λ (n : ℕ). with_all s.keys (target_keys (take n (edges_of s (row_at s (place_row s place))))))
          (sym none);
    }

module _ (old : ScanValue) (scan : IsScan old) (is : IsComplete old) (place : ℕ) (q : IsQueue old place)
    (lt : place < length old.keys)
    (s : ScanValue) (p : ℕ) (now : IsExpanding old s place p) where
  abbrev row : ℕ
  row = place_row old place

  row_there : row < length old.rows
  row_there = q.rows place lt

  module _ (low : (row_at old row).first ≤ p) (high : p < (row_at old row).first + (row_at old row).count) where
    pub edge_within : p < length s.edges
    edge_within = subst (λ (es : List EdgeRow). p < length es) (sym now.kept.rows.edges)
        (within old scan is row row_there p high)

    same_edge : edge_at s p ≡ edge_at old p
    same_edge = ap (λ (es : List EdgeRow). get_or es p blank_edge) now.kept.rows.edges

    module _ (t : ℕ) (target : (edge_at s p).target ≡ Some t) where
      old_target : (edge_at old p).target ≡ Some t
      old_target = ap (λ (e : EdgeRow). e.target) (sym same_edge) ∙ target

      pub target_within : t < length s.rows
      target_within = subst (λ (rows : List VertexRow). t < length rows) (sym now.kept.rows.rows)
          (scan.targets_are_rows p t (within old scan is row row_there p high) old_target)

      pub edge_leads : leads (graph_of_scan s) (row_at s t).key (get_or s.keys place 0) ≡ true
      edge_leads = ap (λ (g : Graph). leads g (row_at s t).key (get_or s.keys place 0)) (graph_kept old s now.kept.rows)
          ∙ (ap (λ (v : VertexRow). leads (graph_of_scan old) v.key (get_or s.keys place 0))
          (rows_kept old s now.kept.rows t)
          ∙ (ap (λ (k : ℕ). leads (graph_of_scan old) (row_at old t).key k) (now.key ∙ sym (q.keys place lt))
          ∙ leads_there old scan is row row_there p t low high old_target))

      pub expanding_some : (new : ScanValue) → new.keys ≡ with_met s.keys (row_at s t).key → IsQueue new place
          → new.ends ≡ s.ends → KeepsRowsAndCosts s new → IsExpanding old new place (p + 1)
      expanding_some new keys queue ends kept =
          let one : with_met s.keys (row_at s t).key ≡ with_all s.keys ((row_at s t).key ∷ []) = refl in
          let front = with_all-front s.keys ((row_at s t).key ∷ []) place now.there in
          record {
            kept = all_kept_on old s new now.kept kept;
            ends = ends ∙ now.ends;
            queue = queue;
            there = rw keys front.0;
            key = ap (λ (xs : List ℕ). get_or xs place 0) keys ∙ (front.1 ∙ now.key);
            keys = keys
                ∙ (ap (λ (v : VertexRow). with_met s.keys v.key) (rows_kept old s now.kept.rows t)
                ∙ (ap (λ (xs : List ℕ). with_met xs (row_at old t).key) now.keys
                ∙ (sym (met_target old scan is row row_there _ p t high old_target) ∙ sym
                (met_more old scan is row row_there old.keys p low high))));
          }

    pub expanding_none : (edge_at s p).target ≡ None → IsExpanding old s place (p + 1)
    expanding_none none =
        let old_none : (edge_at old p).target ≡ None = ap (λ (e : EdgeRow). e.target) (sym same_edge) ∙ none in
        record {
          kept = now.kept;
          ends = now.ends;
          queue = now.queue;
          there = now.there;
          key = now.key;
          keys = now.keys ∙ (sym (met_nothing old scan is row row_there _ p old_none) ∙ sym
              (met_more old scan is row row_there old.keys p low high));
        }

  module _ (end : (row_at old row).first + (row_at old row).count ≤ p) where
    pub expanded_keys : s.keys ≡ with_all old.keys (neighbours (graph_of_scan old) (get_or old.keys place 0))
    expanded_keys = now.keys ∙ (met_all old scan is row row_there old.keys p end ∙ ap
        (λ (k : ℕ). with_all old.keys (neighbours (graph_of_scan old) k)) (q.keys place lt))

    pub expanded_queue : IsQueue s (place + 1)
    expanded_queue = one_done s place old.keys now.queue
        (expanded_keys ∙ (ap (λ (k : ℕ). with_all old.keys (neighbours (graph_of_scan old) k)) (sym now.key) ∙ ap
        (λ (g : Graph). with_all old.keys (neighbours g (get_or s.keys place 0)))
        (sym (graph_kept old s now.kept.rows))))
