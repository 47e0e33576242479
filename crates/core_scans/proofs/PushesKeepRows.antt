-- What a push to the scan leaves of what collect carries.
use Rattle.std.proofs.Common.{◌≡◌, ◌≢◌, ℕ, ◌+◌, ◌-◌, ◌<◌, ◌≤◌, List, [], ◌∷◌, length, Some, refl, sym, ap, ◌∙◌, subst}
use Rattle.std.proofs.Common.{arith}
use Rattle.std.specs.Prelude.{slice_get}
use mathlib.Core.Logic.{dite}
use native.Mathlib.Decide.{ℕ_discrete}
use Rattle.packed_link.specs.declared.link.Life.{Life}
use Rattle.scan_record.specs.declared.rows.VertexRow.{VertexRow}
use Rattle.scan_record.specs.declared.rows.EdgeRow.{EdgeRow}
use Rattle.scan_record.specs.Scan.{ScanValue, IsScan, row_at, edges_of, new_row, blank_life, with_vertex, with_started}
use Rattle.scan_record.specs.Scan.{with_edge}
use Rattle.scan_record.proofs.Places.{each_pushed}
use Rattle.scan_record.proofs.Vertices.{row_at-with_vertex}
use Rattle.core_journal.specs.declared.event.Event.{Event}
use Rattle.core_journal.specs.GraphOf.{present_key}
use Rattle.core_journal.specs.Prefix.{IsPrefix}
use Rattle.core_journal.proofs.Lists.{get_front, get_here, prefix_refl}
use Rattle.core_rule.specs.Fronts.{MetVertex, key_in}
use Rattle.core_kept.specs.Nodes.{node_in}
use Rattle.core_rule.specs.declared.view.View.{View}
use Rattle.core_scans.specs.Seen.{IsLedTo}
use Rattle.core_scans.specs.Walking.{IsRowMet, AreRowsMet, AreRowsReached, IsLonger}
use Rattle.core_scans.proofs.PushesKeepLives.{more_vertex, started_other, edge_other, edges_other, edges_same}

pub longer_same : (s : ScanValue) → IsLonger s s
longer_same s = record { next = refl; started = refl; edges = refl; rows = omega arith; same = λ k low. refl }

pub longer_vertex : (s : ScanValue) (life : Life) (key : ℕ) → IsLonger s (with_vertex s life key)
longer_vertex s life key = record {
  next = refl;
  started = refl;
  edges = refl;
  rows = (more_vertex s life key).rows;
  same = λ k low. row_at-with_vertex s life key k low;
}

-- a row of a vertex that was met
pub met_pushed : (v : View) (start : List Event) (s : ScanValue) (x : Life) (key : ℕ) → IsPrefix start v.front
    → AreRowsMet v start s → MetVertex v x → key_in v x.index ≡ key → present_key v.front x ≡ Some key
    → AreRowsMet v start (with_vertex s x key)
met_pushed v start s x key p rows m is there = each_pushed (λ (k : ℕ) (r : VertexRow). IsRowMet v start r) s.rows
    (new_row x key) (new_row blank_life 0) rows record {
      met = m;
      key = is;
      found = v.front;
      after = p;
      before =
          prefix_refl v.front;
      present = there;
    }

-- where no row has its life, none has its index
pub none_of_index : (v : View) (start : List Event) (s : ScanValue) (x : Life) → AreRowsMet v start s → MetVertex v x
    → ((k : ℕ) → k < length s.rows → (row_at s k).life ≢ x) → (k : ℕ) → k < length s.rows
    → (row_at s k).life.index ≢ x.index
none_of_index v start s x rows m none k low same =
    let tag : (row_at s k).life.tag ≡ x.tag = (rows k low).met.life.tag
    ∙ (ap (λ (y : ℕ). (node_in v.sizes v.front y).tag) same ∙ sym m.life.tag) in
    none k low (λ i. record { index = same i; tag = tag i })

-- rows that are reached
pub reached_vertex : (s : ScanValue) (life : Life) (key n : ℕ) → n ≤ length s.rows → AreRowsReached s n
    → AreRowsReached (with_vertex s life key) n
reached_vertex s life key n few h t some low =
    let r = h t some low in
    record {
      from = r.from;
      earlier = r.earlier;
      place = r.place;
      edge = r.edge;
      at = ap
          (λ (x : VertexRow). slice_get (edges_of s x) r.place)
          (row_at-with_vertex s life key r.from (omega (arith, r.earlier, low, few))) ∙ r.at;
      leads = r.leads;
    }

pub reached_started : (s : ScanValue) (is : IsScan s) (n counter head m : ℕ) → s.next ≤ n → n < length s.rows
    → AreRowsReached s m → AreRowsReached (with_started s n counter head) m
reached_started s is n counter head m from inside h t some low =
    let r = h t some low in
    dite (ℕ_discrete r.from n)
    (λ same.
    let none : slice_get (edges_of s (row_at s n)) r.place ≡ Some r.edge = subst
    (λ (k : ℕ). slice_get (edges_of s (row_at s k)) r.place ≡ Some r.edge) same r.at in
    let empty : slice_get (edges_of s (new_row (row_at s n).life (row_at s n).key)) r.place ≡ Some r.edge = subst
    (λ (x : VertexRow). slice_get (edges_of s x) r.place ≡ Some r.edge) (is.not_started n from inside) none in
    absurd (nothing (edges_of s (new_row (row_at s n).life (row_at s n).key)) r.place r.edge refl empty))
    (λ ne. record {
      from = r.from;
      earlier = r.earlier;
      place = r.place;
      edge = r.edge;
      at = ap
          (λ (x : VertexRow). slice_get (edges_of s x) r.place) (started_other s is n counter head r.from ne)
          ∙ r.at;
      leads = r.leads;
    })
  where
    nothing : (l : List EdgeRow) (k : ℕ) (e : EdgeRow) → l ≡ [] → slice_get l k ≡ Some e → ⊥
    nothing l k e p g = let h = subst (λ (x : List EdgeRow). slice_get x k ≡ Some e) p g in absurd (cc)

module _ (s : ScanValue) (is : IsScan s) (e : EdgeRow) (begun : 0 < s.next) where
  pub reached_edge : (n : ℕ) → n ≤ length s.rows → AreRowsReached s n → AreRowsReached (with_edge s e) n
  reached_edge n few h t some low =
      let r = h t some low in
      let inside : r.from < length s.rows = omega (arith, r.earlier, low, few) in
      record {
        from = r.from;
        earlier = r.earlier;
        place = r.place;
        edge = r.edge;
        leads = r.leads;
        at = dite (ℕ_discrete r.from (s.next - 1))
            (λ same.
            let old : slice_get (edges_of s (row_at s (s.next - 1))) r.place ≡ Some r.edge = subst
            (λ (k : ℕ). slice_get (edges_of s (row_at s k)) r.place ≡ Some r.edge) same r.at in
            ap (λ (k : ℕ). slice_get (edges_of (with_edge s e) (row_at (with_edge s e) k)) r.place) same
            ∙ (ap (λ (l : List EdgeRow). slice_get l r.place) (edges_same s is e begun)
            ∙ get_front (edges_of s (row_at s (s.next - 1))) (e ∷ []) r.place r.edge old))
            (λ ne. ap (λ (x : VertexRow). slice_get (edges_of (with_edge s e) x) r.place) (edge_other s is e r.from ne)
            ∙ (ap (λ (l : List EdgeRow). slice_get l r.place) (edges_other s is e r.from inside) ∙ r.at));
      }

  -- the row to which the pushed edge leads
  pub reached_new : (n : ℕ) → n < length s.rows → s.next ≤ n → e.target ≡ Some n → AreRowsReached s n
      → AreRowsReached (with_edge s e) (n + 1)
  reached_new n inside later leads h t some low = dite (ℕ_discrete t n)
      (λ same. subst (IsLedTo (with_edge s e)) (sym same) record {
        from = s.next - 1;
        earlier = omega (arith, begun, later);
        place = length (edges_of s (row_at s (s.next - 1)));
        edge = e;
        at = ap (λ (l : List EdgeRow). slice_get l (length (edges_of s (row_at s (s.next - 1)))))
            (edges_same s is e begun) ∙ get_here (edges_of s (row_at s (s.next - 1))) e [];
        leads = leads;
      })
      (λ ne. reached_edge n (omega (arith, inside)) h t some (omega (arith, low, ne)))
