-- What a scan tells of its graph, and what stays where the rows stay.
use Rattle.std.proofs.Common.{◌≡◌, ℕ, zero, suc, ◌+◌, ◌<◌, ◌≤◌, ◌==◌, true, false, cond, List, [], ◌∷◌, length, map}
use Rattle.std.proofs.Common.{get_or, Some, refl, ap, ap₂, ◌∙◌, subst, arith}
use Rattle.std.specs.Ordering.{nat_cmp}
use Rattle.std.specs.Cmp.{nat_cmp_total}
use Rattle.std.specs.List.{list_any}
use Rattle.std.specs.FinSet as set
use Rattle.std.proofs.lemmas.List.{length-map}
use Rattle.std.proofs.lemmas.Bool.{eq-eqb, or_left, or_right}
use Rattle.graph_kinds.specs.Graph.{has, neighbours, key_count}
use Rattle.scan_record.specs.declared.rows.VertexRow.{VertexRow}
use Rattle.scan_record.specs.Asked.{KeepsRows}
use Rattle.scan_record.specs.Scan.{ScanValue, IsScan, IsComplete, new_row, blank_life, row_at, edge_at, edges_of}
use Rattle.scan_record.specs.ScanGraph.{graph_of_scan, target_keys}
use Rattle.scan_record.proofs.GraphOfScan.{keys_law, neighbours_law}
use Rattle.graph_kinds.proofs.PathsPairs as pairs

-- the out-neighbours of a row's key are the keys of its edges with a target
pub row_neighbours : (s : ScanValue) (k : ℕ) → IsScan s → IsComplete s → k < length s.rows → neighbours
    (graph_of_scan s) (row_at s k).key ≡ target_keys (edges_of s (row_at s k))
row_neighbours = neighbours_law pairs.neighbours_law

any_place : (key : ℕ) (d : VertexRow) (rows : List VertexRow) (k : ℕ) → k < length rows → (get_or rows k d).key ≡ key
    → list_any (λ (row : VertexRow). row.key == key) rows ≡ true
any_place key d [] k h e = absurd (omega arith)
any_place key d (r ∷ rows) zero h e = or_left (r.key == key) (list_any (λ (row : VertexRow). row.key == key) rows)
    (eq-eqb r.key key e)
any_place key d (r ∷ rows) (suc k) h e = or_right (r.key == key) (list_any (λ (row : VertexRow). row.key == key) rows)
    (any_place key d rows k (omega arith) e)

-- the key of a row is a key of the graph
pub row_key : (s : ScanValue) (k : ℕ) → k < length s.rows → has (graph_of_scan s) (row_at s k).key ≡ true
row_key s k h = keys_law s (row_at s k).key ∙ any_place (row_at s k).key (new_row blank_life 0) s.rows k h refl

set_short : (keys : List ℕ) → set.len (set.from_list {R = nat_cmp} keys) ≤ length keys
set_short [] = omega (arith, set.len-empty nat_cmp)
set_short (k ∷ keys) =
    let later = set_short keys in
    let s = set.from_list {R = nat_cmp} keys in
    let one = set.len-insert nat_cmp_total s k in
    elim (set.contains s k) as (λ b. set.len (set.insert s k) ≡ cond b (set.len s) (set.len s + 1) → set.len
    (set.insert s k) ≤ suc (length keys)) [
      | true ↦ λ e. omega (arith, later, e)
      | false ↦ λ e. omega (arith, later, e)
    ] one

-- the graph has no more keys than there are rows
pub few_keys : (s : ScanValue) → key_count (graph_of_scan s) ≤ length s.rows
few_keys s = omega (
  arith,
  set_short (map (λ (row : VertexRow). row.key) s.rows),
  length-map s.rows
      (λ (row : VertexRow). row.key),
)

module _ (old new : ScanValue) (k : KeepsRows old new) where
  pub graph_kept : graph_of_scan new ≡ graph_of_scan old
  graph_kept = ap₂ (λ rows edges. graph_of_scan (record old { rows = rows; edges = edges })) k.rows k.edges

  pub rows_kept : (r : ℕ) → row_at new r ≡ row_at old r
  rows_kept r = ap (λ rows. row_at (record old { rows = rows }) r) k.rows

  pub complete_kept : IsComplete old → IsComplete new
  complete_kept is = record {
    has_root = rw k.rows is.has_root;
    all_started = cc (k.started, k.rows, is.all_started);
    keys_differ = λ i j lt h. rw (rows_kept i, rows_kept j) (is.keys_differ i j lt
        (subst (λ rows. j < length rows) k.rows h));
    target_keys = λ p t h e. rw (rows_kept t, k.edges) (is.target_keys p t (subst (λ edges. p < length edges) k.edges h)
        (subst (λ edges. (edge_at (record old { edges = edges }) p).target ≡ Some t) k.edges e));
  }

pub kept_same : (s : ScanValue) → KeepsRows s s
kept_same s = record { nodes = refl; rows = refl; started = refl; next = refl; edges = refl }

pub kept_on : (old mid new : ScanValue) → KeepsRows old mid → KeepsRows mid new → KeepsRows old new
kept_on old mid new a b = record {
  nodes = b.nodes ∙ a.nodes;
  rows = b.rows ∙ a.rows;
  started = b.started ∙ a.started;
  next = b.next ∙ a.next;
  edges = b.edges ∙ a.edges;
}
