-- What pushes to a scan leave of its rows and edges.
use Rattle.std.proofs.Common.{Some, ◌≡◌, ◌≢◌, ℕ, ◌+◌, ◌-◌, ◌<◌, List, [], ◌∷◌, ◌++◌, length, take, drop, refl, sym, ap}
use Rattle.std.proofs.Common.{◌∙◌, arith, length-append}
use Rattle.std.proofs.lemmas.List.{get_or-set_same, get_or-set_other, length-drop, take-append-le, drop-append-le}
use Rattle.std.proofs.lemmas.List.{take_all}
use Rattle.std.proofs.Math.ListN.{length-set}
use Rattle.packed_link.specs.declared.link.Life.{Life}
use Rattle.scan_record.specs.declared.rows.VertexRow.{VertexRow}
use Rattle.scan_record.specs.declared.rows.EdgeRow.{EdgeRow}
use Rattle.scan_record.specs.Scan.{ScanValue, IsScan, row_at, edges_of, new_row, blank_life, with_vertex, with_started}
use Rattle.scan_record.specs.Scan.{with_edge}
use Rattle.scan_record.proofs.Places.{told_written}
use Rattle.scan_record.proofs.Starts.{started_row}
use Rattle.scan_record.proofs.Edges.{longer_row}
use Rattle.scan_record.proofs.Vertices.{row_at-with_vertex}
use Rattle.packed_link.specs.Layout.{Sizes}
use Rattle.scan_record.specs.Asked.{root_of}
use Rattle.core_journal.specs.declared.event.Event.{Event}
use Rattle.core_journal.specs.GraphOf.{present_key}
use Rattle.core_journal.specs.Life.{key_of}
use Rattle.core_journal.proofs.LivesOf.{present_is}
use Rattle.core_scans.specs.Seen.{HasCollected}
use Rattle.core_scans.specs.Walking.{IsMore}
use Rattle.core_scans.proofs.FrontsKeepLives.{some_is, key_on}

-- the same rows
pub more_same : (s : ScanValue) → IsMore s s
more_same s = record { rows = omega arith; lives = λ k h. refl }

pub more_vertex : (s : ScanValue) (life : Life) (key : ℕ) → IsMore s (with_vertex s life key)
more_vertex s life key = record {
  rows = omega (arith, length-append s.rows (new_row life key ∷ []));
  lives = λ k h. ap
      (λ (r : VertexRow). r.life) (row_at-with_vertex s life key k h);
}

module _ (s : ScanValue) (is : IsScan s) where
  pub started_other : (n counter head k : ℕ) → k ≢ n → row_at (with_started s n counter head) k ≡ row_at s k
  started_other n counter head k ne = get_or-set_other s.rows n k (started_row s n counter head) (new_row blank_life 0)
      ne

  pub started_same : (n counter head : ℕ) → n < length s.rows → row_at (with_started s n counter head) n ≡ started_row s
      n counter head
  started_same n counter head low = get_or-set_same s.rows n (started_row s n counter head) (new_row blank_life 0) low

  pub more_started : (n counter head : ℕ) → IsMore s (with_started s n counter head)
  more_started n counter head = record {
    rows = omega (arith, length-set s.rows n (started_row s n counter head));
    lives = λ k h. told_written (λ (r : VertexRow). r.life) s.rows n (started_row s n counter head)
        (new_row blank_life 0) refl k;
  }

  pub edge_other : (e : EdgeRow) (k : ℕ) → k ≢ s.next - 1 → row_at (with_edge s e) k ≡ row_at s k
  edge_other e k ne = get_or-set_other s.rows (s.next - 1) k (longer_row s) (new_row blank_life 0) ne

  pub edge_same : (e : EdgeRow) → 0 < s.next → row_at (with_edge s e) (s.next - 1) ≡ longer_row s
  edge_same e some = get_or-set_same s.rows (s.next - 1) (longer_row s) (new_row blank_life 0)
      (omega (arith, is.started_are_rows))

  pub more_edge : (e : EdgeRow) → IsMore s (with_edge s e)
  more_edge e = record {
    rows = omega (arith, length-set s.rows (s.next - 1) (longer_row s));
    lives = λ k h. told_written (λ (r : VertexRow). r.life) s.rows (s.next - 1) (longer_row s) (new_row blank_life 0)
        refl k;
  }

  pub edges_other : (e : EdgeRow) (k : ℕ) → k < length s.rows → edges_of (with_edge s e) (row_at s k) ≡ edges_of s
      (row_at s k)
  edges_other e k low =
      let end = is.edges_end k low in
      ap (take (row_at s k).count) (drop-append-le (row_at s k).first s.edges (e ∷ []) (omega arith))
      ∙ take-append-le (row_at s k).count (drop (row_at s k).first s.edges) (e ∷ [])
      (omega (arith, length-drop (row_at s k).first s.edges))

  pub edges_same : (e : EdgeRow) → 0 < s.next
      → edges_of (with_edge s e) (row_at (with_edge s e) (s.next - 1)) ≡ edges_of s (row_at s (s.next - 1)) ++ e ∷ []
  edges_same e some =
      let old = row_at s (s.next - 1) in
      let end : old.first + old.count ≡ length s.edges = is.last_ends some in
      let was : edges_of s old ≡ drop old.first s.edges = take_all old.count (drop old.first s.edges)
      (omega (arith, length-drop old.first s.edges)) in
      let whole : (l : List EdgeRow) → old.first + (old.count + 1) ≡ length l
      → take (old.count + 1) (drop old.first l) ≡ drop old.first l = λ l long. take_all (old.count + 1)
      (drop old.first l) (omega (arith, length-drop old.first l)) in
      ap (edges_of (with_edge s e)) (edge_same e some)
      ∙ (whole (s.edges ++ e ∷ []) (omega (arith, length-append s.edges (e ∷ []), end))
      ∙ (drop-append-le old.first s.edges (e ∷ []) (omega (arith, end)) ∙ ap (λ (l : List EdgeRow). l ++ e ∷ [])
      (sym was)))

pub more_chain : (r s t : ScanValue) → IsMore r s → IsMore s t → IsMore r t
more_chain r s t a b = record {
  rows = omega (arith, a.rows, b.rows);
  lives = λ k low. b.lives k
      (omega (arith, low, a.rows)) ∙ a.lives k low;
}

-- the root's row has its key, where it has its life
pub root_key : (sizes : Sizes) (caller : ℕ) (start end : List Event) (s : ScanValue) (root : Life) (key : ℕ)
    → HasCollected sizes caller start end s → present_key start root ≡ Some key → (row_at s 0).life ≡ root
    → root_of s ≡ key
root_key sizes caller start end s root key c there same =
    let r = c.rows 0 c.some in
    let old = key_on start r.found r.after root key (present_is start root key there).1 in
    let new = (present_is r.found (row_at s 0).life (row_at s 0).key r.present).1 in
    some_is (row_at s 0).key key (sym new ∙ (ap (key_of r.found) same ∙ old))
