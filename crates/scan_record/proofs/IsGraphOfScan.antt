-- The graph of a complete scan is a graph.
use Rattle.std.proofs.Common.{◌≡◌, ◌≢◌, ℕ, ◌<◌, ◌≤◌, ◌==◌, true, false, cond, ◌&&◌, List, [], ◌∷◌, length, Some, None}
use Rattle.std.proofs.Common.{is_some, refl, sym, ap, subst, ◌∙◌, true≢false}
use Rattle.std.specs.Prelude.{All, find, flat_map, option_map}
use Rattle.std.specs.List.{list_any}
use Rattle.std.specs.FinMap as finmap
use Rattle.std.proofs.lemmas.Bool.{eqb-true}
use Rattle.std.proofs.lemmas.List.Elements.{All-head, All-tail, All-weaker}
use Rattle.std.proofs.lemmas.List.Folds.{list_any_at}
use Rattle.graph_kinds.specs.Graph.{IsGraph, weight_of}
use Rattle.scan_record.specs.declared.rows.VertexRow.{VertexRow}
use Rattle.scan_record.specs.declared.rows.EdgeRow.{EdgeRow}
use Rattle.scan_record.specs.Scan.{ScanValue, IsScan, IsComplete, row_at, edges_of, new_row, blank_life}
use Rattle.scan_record.specs.ScanGraph.{pairs_of, graph_of_scan, leads_to, weight_to}
use Rattle.scan_record.proofs.FoundItems.{any_none, any_place, itself}
use Rattle.scan_record.proofs.GraphOfScan.{all_edges, pair_total, look_none, all_apart, weights_law, keys_law}

-- an edge of weight 1 or more whose target is the row of its key
abbrev IsGood : ScanValue → EdgeRow → Type 0
IsGood s edge = (1 ≤ edge.weight) × ((t : ℕ) → edge.target ≡ Some t → (t < length s.rows) ×
    ((row_at s t).key ≡ edge.key))

-- what all edges meet, the edge meets whose weight is found
weight_found : (P : EdgeRow → Type 0) (b w : ℕ) (edges : List EdgeRow) → All P edges → weight_to b edges ≡ Some w →
    (e : EdgeRow) × P e × (t : ℕ) × (e.target ≡ Some t) × (e.key ≡ b) × (e.weight ≡ w)
weight_found P b w [] all h = absurd (cc)
weight_found P b w (edge ∷ edges) all h =
    elim edge.target as (λ o. edge.target ≡ o → option_map (λ (e : EdgeRow). e.weight)
    (cond (is_some o && (edge.key == b)) (Some edge) (find (leads_to b) edges)) ≡ Some w
    → (e : EdgeRow) × P e × (t : ℕ) × (e.target ≡ Some t) × (e.key ≡ b) × (e.weight ≡ w)) [
      | None ↦ λ _ f. weight_found P b w edges (All-tail P edge edges all) f
      | Some t ↦ λ is f. elim (edge.key == b) as (λ c. (edge.key == b) ≡ c → option_map (λ (e : EdgeRow). e.weight)
          (cond c (Some edge) (find (leads_to b) edges)) ≡ Some w
          → (e : EdgeRow) × P e × (t : ℕ) × (e.target ≡ Some t) × (e.key ≡ b) × (e.weight ≡ w)) [
            | true ↦ λ same g. (edge, All-head P edge edges all, t, is, eqb-true edge.key b same, (cc))
            | false ↦ λ _ g. weight_found P b w edges (All-tail P edge edges all) g
          ] refl f
    ] refl h

no_row : (s : ScanValue) (a b : ℕ) → list_any (λ row. row.key == a) s.rows ≡ false → weight_of
    (graph_of_scan s) a b ≡ None
no_row s a b none =
    let apart : All (λ row. row.key ≢ a) s.rows = All-weaker (λ (row : VertexRow). (row.key == a) ≡ false)
    (λ row. row.key ≢ a)
    (λ row no at. absurd (true≢false (sym (itself a) ∙ ap (λ (n : ℕ). n == a) (sym at) ∙ no))) s.rows
    (any_none (λ (row : VertexRow). row.key == a) s.rows none) in
    finmap.get-from_entries pair_total (flat_map (pairs_of s) s.rows) (a, b) ∙ look_none a b
    (flat_map (pairs_of s) s.rows) (all_apart s a s.rows apart)

row_there : (s : ScanValue) (a b w : ℕ) → weight_of (graph_of_scan s) a b ≡ Some w → list_any
    (λ row. row.key == a) s.rows ≡ true
row_there s a b w h = elim (list_any (λ row. row.key == a) s.rows) as
    (λ c. list_any (λ row. row.key == a) s.rows ≡ c → c ≡ true) [
      | true ↦ λ _. refl
      | false ↦ λ none. let no : weight_of (graph_of_scan s) a b ≡ None = no_row s a b none in absurd (cc)
    ] refl

found : (s : ScanValue) (a b w : ℕ) → IsScan s → IsComplete s → weight_of (graph_of_scan s) a b ≡ Some w → (e : EdgeRow)
    × IsGood s e × (t : ℕ) × (e.target ≡ Some t) × (e.key ≡ b) × (e.weight ≡ w)
found s a b w is full h =
    let r = any_place (λ (row : VertexRow). row.key == a) (new_row blank_life 0) s.rows (row_there s a b w h) in
    let key : (row_at s r.0).key ≡ a = eqb-true (row_at s r.0).key a r.2 in
    let here : weight_of (graph_of_scan s) (row_at s r.0).key b ≡ Some w = ap
    (λ (n : ℕ). weight_of (graph_of_scan s) n b) key ∙ h in
    weight_found (IsGood s) b w (edges_of s (row_at s r.0))
    (all_edges (IsGood s) s r.0 is r.1 (λ p l. (
      is.weighed p l,
      λ t e.
          (is.targets_are_rows p t l e, full.target_keys p t l e),
    )))
    (sym (weights_law s r.0 b is full r.1) ∙ here)

pub graph_law : (s : ScanValue) → IsScan s → IsComplete s → IsGraph (graph_of_scan s)
graph_law s is full = record {
  from_key = λ a b w h. keys_law s a ∙ row_there s a b w h;
  to_key = λ a b w h.
      let r = found s a b w is full h in
      let good = r.1.1 r.2 r.3 in
      let key : (row_at s r.2).key ≡ b = good.1 ∙ r.4 in
      keys_law s b ∙ list_any_at (λ (row : VertexRow). row.key == b) s.rows r.2 (new_row blank_life 0) good.0
      (ap (λ (n : ℕ). n == b) key ∙ itself b);
  weighed = λ a b w h. let r = found s a b w is full h in subst (λ (n : ℕ). 1 ≤ n) r.5 r.1.0;
}
