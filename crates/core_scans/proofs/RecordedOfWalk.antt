-- What holds of the edges that are recorded of a walk.
use Rattle.std.proofs.Common.{◌≡◌, ◌⊎◌, inl, inr, ⊎_elim, ℕ, zero, suc, List, [], ◌∷◌, ◌++◌, map}
use Rattle.std.proofs.Common.{Contains, Some, refl, sym, ap, subst, arith}
use Rattle.std.specs.Prelude.{slice_get}
use Rattle.graph_kinds.specs.History.{Every}
use Rattle.packed_link.specs.Layout.{Sizes}
use Rattle.packed_link.specs.declared.link.Life.{Life}
use Rattle.scan_record.specs.declared.rows.VertexRow.{VertexRow}
use Rattle.scan_record.specs.declared.rows.EdgeRow.{EdgeRow}
use Rattle.scan_record.specs.Scan.{ScanValue, edges_of}
use Rattle.core_journal.specs.declared.event.Event.{Event}
use Rattle.core_scans.specs.Seen.{Meeting, Recorded, PassedOver, index_met, recorded, IsEdgeSeen}
use Rattle.core_scans.specs.Walking.{IsRowOpen}
use Rattle.core_scans.specs.Seen.{IsSeenReplaced, IsMeetingSeen, IsRowSeen}

-- each of them is seen
pub recorded_seen : (sizes : Sizes) (caller : ℕ) (s : ScanValue) (begin end : List Event) (source : Life)
    (ms : List Meeting) → Every (IsMeetingSeen sizes caller s begin end source) ms
    → Every (IsEdgeSeen sizes caller s begin end source) (recorded ms)
recorded_seen sizes caller s begin end source [] f = tt
recorded_seen sizes caller s begin end source (Recorded e ∷ ms) f =
    (f.0, recorded_seen sizes caller s begin end source ms f.1)
recorded_seen sizes caller s begin end source (PassedOver index word ∷ ms) f =
    recorded_seen sizes caller s begin end source ms f.1

-- so each edge of a row is
pub row_edges : (sizes : Sizes) (caller : ℕ) (s : ScanValue) (start end : List Event) (row : VertexRow)
    (seen : IsRowSeen sizes caller s start end row)
    → Every (IsEdgeSeen sizes caller s seen.begin end row.life) (edges_of s row)
row_edges sizes caller s start end row seen = subst (Every (IsEdgeSeen sizes caller s seen.begin end row.life))
    (sym seen.edges) (recorded_seen sizes caller s seen.begin end row.life seen.walked seen.meetings)

pub open_edges : (sizes : Sizes) (caller : ℕ) (s : ScanValue) (start end : List Event) (row : VertexRow) (at steps : ℕ)
    (o : IsRowOpen sizes caller s start end row at steps)
    → Every (IsEdgeSeen sizes caller s o.begin end row.life) (edges_of s row)
open_edges sizes caller s start end row at steps o = subst (Every (IsEdgeSeen sizes caller s o.begin end row.life))
    (sym o.edges) (recorded_seen sizes caller s o.begin end row.life o.walked o.meetings)

-- what is recorded of a longer walk
pub recorded_more : (ms ns : List Meeting) → recorded (ms ++ ns) ≡ recorded ms ++ recorded ns
recorded_more [] ns = refl
recorded_more (Recorded e ∷ ms) ns = ap (λ (es : List EdgeRow). e ∷ es) (recorded_more ms ns)
recorded_more (PassedOver index word ∷ ms) ns = recorded_more ms ns

-- an edge at a place among the recorded ones has this index
pub record IsRecordedAt (ms : List Meeting) (index : ℕ) : Type 0 where
  pub place : ℕ
  pub edge : EdgeRow
  pub at : slice_get (recorded ms) place ≡ Some edge
  pub index_is : edge.life.index ≡ index

-- what a walk met was recorded or seen replaced
pub met_how : (sizes : Sizes) (caller : ℕ) (s : ScanValue) (begin end : List Event) (source : Life) (ms : List Meeting)
    → Every (IsMeetingSeen sizes caller s begin end source) ms → (y : ℕ) → Contains (map index_met ms) y
    → IsRecordedAt ms y ⊎ ((word : ℕ) × IsSeenReplaced sizes caller begin end y word)
met_how sizes caller s begin end source [] f y h = absurd (omega (arith, h.1))
met_how sizes caller s begin end source (Recorded e ∷ ms) f y (zero, h, same) = inl
    record { place = 0; edge = e; at = refl; index_is = same }
met_how sizes caller s begin end source (Recorded e ∷ ms) f y (suc k, h, same) = ⊎_elim
    (λ (r : IsRecordedAt ms y). inl record { place = suc r.place; edge = r.edge; at = r.at; index_is = r.index_is })
    (λ (r : (word : ℕ) × IsSeenReplaced sizes caller begin end y word). inr r)
    (met_how sizes caller s begin end source ms f.1 y (k, omega arith, same))
met_how sizes caller s begin end source (PassedOver index word ∷ ms) f y (zero, h, same) = inr
    (word, subst (λ (x : ℕ). IsSeenReplaced sizes caller begin end x word) same f.0)
met_how sizes caller s begin end source (PassedOver index word ∷ ms) f y (suc k, h, same) = ⊎_elim
    (λ (r : IsRecordedAt ms y). inl record { place = r.place; edge = r.edge; at = r.at; index_is = r.index_is })
    (λ (r : (word : ℕ) × IsSeenReplaced sizes caller begin end y word). inr r)
    (met_how sizes caller s begin end source ms f.1 y (k, omega arith, same))
