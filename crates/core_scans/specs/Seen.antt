-- What a scan's record says of moments: what collect loaded, and what verify loaded again.
use Rattle.std.specs.Prelude.{◌≡◌, ◌≢◌, ℕ, ◌<◌, List, [], ◌∷◌, length, slice_get, Some, None, true, false}
use Rattle.graph_kinds.specs.History.{Every}
use Rattle.packed_link.specs.Link.{index_of, mark_of, tag_of, nowhere}
use Rattle.packed_link.specs.Layout.{Sizes, link_at, second_at, third_at}
use Rattle.packed_link.specs.declared.link.Life.{Life}
use Rattle.scan_record.specs.declared.rows.VertexRow.{VertexRow}
use Rattle.scan_record.specs.declared.rows.EdgeRow.{EdgeRow}
use Rattle.scan_record.specs.Scan.{ScanValue, row_at, edge_at, edges_of}
use Rattle.core_journal.specs.declared.event.Event.{Event}
use Rattle.core_journal.specs.GraphOf.{present_key}
use Rattle.core_journal.specs.Life.{link_of, vertex_marked}
use Rattle.core_journal.specs.Machine.{word_at}
use Rattle.core_journal.specs.Prefix.{IsPrefix}
use Rattle.core_journal.specs.Reuse.{pass_in}
use Rattle.core_kept.specs.Facts.{HasMet}
use Rattle.core_kept.specs.Kept.{IsKept, IsQuiet}
use Rattle.core_kept.specs.Nodes.{node_in}
use Rattle.core_lists.specs.Replacements.{LeadsToItsKey}

-- from a moment of a kept journal on a caller only looked: its pass was open there, and it made no event since
pub record OnlyLooks (sizes : Sizes) (caller : ℕ) (start now : List Event) : Type 0 where
  pub kept : IsKept sizes now
  pub opened : (pass_in sizes start caller).is_open ≡ true
  pub quiet : IsQuiet now caller (length start)

-- a place held this word at a moment between two others
pub record WasAt (sizes : Sizes) (from to : List Event) (place word : ℕ) : Type 0 where
  pub moment : List Event
  pub after : IsPrefix from moment
  pub before : IsPrefix moment to
  pub word_is : word_at sizes moment place ≡ word

-- what is recorded of an edge's target: a row, of the life that is the target, or none, where that life is over or the
-- edge was found marked
pub record IsTargetSeen (s : ScanValue) (end : List Event) (e : EdgeRow) (target : Life) : Type 0 where
  pub row : (t : ℕ) → e.target ≡ Some t
      → (t < length s.rows) × ((row_at s t).life ≡ target) × (mark_of e.link ≡ 0)
  pub over : e.target ≡ None → mark_of e.link ≡ 0 → vertex_marked end target ≡ true

-- an edge row is of an edge of this source, with the words with which it was linked, to which a walk in the pass of a
-- caller had come when it loaded the edge's link
pub record IsEdgeSeen (sizes : Sizes) (caller : ℕ) (s : ScanValue) (begin end : List Event) (source : Life)
    (e : EdgeRow) : Type 0 where
  pub moment : List Event
  pub after : IsPrefix begin moment
  pub before : IsPrefix moment end
  pub word_is : word_at sizes moment (link_at sizes e.life.index) ≡ e.link
  pub met : HasMet sizes moment caller e.life.index
  pub life : e.life.tag ≡ (node_in sizes moment e.life.index).tag
  pub edge : (node_in sizes moment e.life.index).vertex ≡ false
  pub link : Event
  pub is : link_of moment e.life ≡ Some link
  pub from : link.source ≡ source
  pub key : link.key ≡ e.key
  pub weight : link.weight ≡ e.weight
  pub target : IsTargetSeen s end e link.target

-- an edge to which a walk in the pass of a caller had come has this link, which is marked and leads to a node of the
-- edge's key: so the edge was replaced
pub record IsSeenReplaced (sizes : Sizes) (caller : ℕ) (begin end : List Event) (index word : ℕ) : Type 0 where
  pub moment : List Event
  pub after : IsPrefix begin moment
  pub before : IsPrefix moment end
  pub word_is : word_at sizes moment (link_at sizes index) ≡ word
  pub met : HasMet sizes moment caller index
  pub edge : (node_in sizes moment index).vertex ≡ false
  pub replaced : LeadsToItsKey sizes moment index

-- what a walk meets on a list: an edge that it records, or one that it passes over, with its index and its link
pub data Meeting : Type 0 where
  Recorded : EdgeRow → Meeting
  PassedOver : ℕ → ℕ → Meeting

-- the node that is met
abbrev pub index_met : Meeting → ℕ
index_met (Recorded e) = e.life.index
index_met (PassedOver index word) = index

-- its link, by which the walk goes on
abbrev pub link_met : Meeting → ℕ
link_met (Recorded e) = e.link
link_met (PassedOver index word) = word

-- the edges that are recorded of what a walk meets
abbrev pub recorded : List Meeting → List EdgeRow
recorded [] = []
recorded (Recorded e ∷ ms) = e ∷ recorded ms
recorded (PassedOver index word ∷ ms) = recorded ms

-- an edge is recorded as it was seen, and passed over only where it was seen replaced
abbrev pub IsMeetingSeen : Sizes → ℕ → ScanValue → List Event → List Event → Life → Meeting → Type 0
IsMeetingSeen sizes caller s begin end source (Recorded e) = IsEdgeSeen sizes caller s begin end source e
IsMeetingSeen sizes caller s begin end source (PassedOver index word) = IsSeenReplaced sizes caller begin end index word

-- a word leads to the first that is met, the link of each to the next, and that of the last to none
abbrev pub LeadsAlong : ℕ → List Meeting → Type 0
LeadsAlong word [] = index_of word ≡ nowhere
LeadsAlong word (m ∷ ms) = (index_of word ≡ index_met m) × (index_met m ≢ nowhere) × LeadsAlong (link_met m) ms

-- a vertex row is of a vertex that was found present with its key; after that its counter was loaded, then its head,
-- and then the links of what these words lead along, of which the row's edges are recorded
pub record IsRowSeen (sizes : Sizes) (caller : ℕ) (s : ScanValue) (start end : List Event) (row : VertexRow)
    : Type 0 where
  pub found : List Event
  pub after : IsPrefix start found
  pub present : present_key found row.life ≡ Some row.key
  pub begin : List Event
  pub then : IsPrefix found begin
  pub before : IsPrefix begin end
  pub counter : word_at sizes begin (third_at sizes row.life.index) ≡ row.counter
  pub head : WasAt sizes begin end (second_at sizes row.life.index) row.head
  pub walked : List Meeting
  pub leads : LeadsAlong row.head walked
  pub meetings : Every (IsMeetingSeen sizes caller s begin end row.life) walked
  pub edges : edges_of s row ≡ recorded walked

-- an edge of an earlier row leads to a row
pub record IsLedTo (s : ScanValue) (t : ℕ) : Type 0 where
  pub from : ℕ
  pub earlier : from < t
  pub place : ℕ
  pub edge : EdgeRow
  pub at : slice_get (edges_of s (row_at s from)) place ≡ Some edge
  pub leads : edge.target ≡ Some t

-- what collect leaves at its end, in the pass of a caller
pub record HasCollected (sizes : Sizes) (caller : ℕ) (start end : List Event) (s : ScanValue) : Type 0 where
  pub some : 0 < length s.rows
  pub started : s.started ≡ length s.rows
  pub rows : (k : ℕ) → k < length s.rows → IsRowSeen sizes caller s start end (row_at s k)
  pub reached : (t : ℕ) → 0 < t → t < length s.rows → IsLedTo s t

-- verify found the same of a vertex row after the end of collect: its head and the links of its edges first, then its
-- counter, and then that it's alive
pub record IsRowSame (sizes : Sizes) (s : ScanValue) (end now : List Event) (row : VertexRow) : Type 0 where
  pub counted : List Event
  pub after : IsPrefix end counted
  pub head : WasAt sizes end counted (second_at sizes row.life.index) row.head
  pub links : Every (λ e. WasAt sizes end counted (link_at sizes e.life.index) e.link) (edges_of s row)
  pub counter : word_at sizes counted (third_at sizes row.life.index) ≡ row.counter
  pub last : List Event
  pub then : IsPrefix counted last
  pub before : IsPrefix last now
  pub life : tag_of (word_at sizes last (link_at sizes row.life.index)) ≡ row.life.tag
  pub unmarked : mark_of (word_at sizes last (link_at sizes row.life.index)) ≡ 0

-- what verify has seen where it answers Same
abbrev pub IsSame : Sizes → List Event → List Event → ScanValue → Type 0
IsSame sizes end now s = (k : ℕ) → k < length s.rows → IsRowSame sizes s end now (row_at s k)

-- the nodes of all rows and edges are in the table
pub record IsInside (sizes : Sizes) (s : ScanValue) : Type 0 where
  pub rows : (k : ℕ) → k < length s.rows → (row_at s k).life.index < sizes.nodes
  pub edges : (p : ℕ) → p < length s.edges → (edge_at s p).life.index < sizes.nodes
