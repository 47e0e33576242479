-- A row that isn't as it was recorded.
use Rattle.std.specs.Prelude.{◌≡◌, ◌≢◌, ◌⊎◌, ℕ, List, Some, slice_get}
use Rattle.packed_link.specs.Link.{mark_of, tag_of}
use Rattle.packed_link.specs.Layout.{Sizes, link_at, second_at, third_at}
use Rattle.scan_record.specs.declared.rows.VertexRow.{VertexRow}
use Rattle.scan_record.specs.declared.rows.EdgeRow.{EdgeRow}
use Rattle.scan_record.specs.Scan.{ScanValue, edges_of}
use Rattle.core_journal.specs.declared.event.Event.{Event}
use Rattle.core_journal.specs.Machine.{word_at}

-- the link of an edge of a row isn't the recorded one
pub record HasOtherLink (sizes : Sizes) (s : ScanValue) (now : List Event) (row : VertexRow) : Type 0 where
  pub place : ℕ
  pub edge : EdgeRow
  pub at : slice_get (edges_of s row) place ≡ Some edge
  pub other : word_at sizes now (link_at sizes edge.life.index) ≢ edge.link

-- the link of a row's vertex is of another life or marked: the vertex is over
abbrev pub IsVertexOver : Sizes → List Event → VertexRow → Type 0
IsVertexOver sizes now row =
    (tag_of (word_at sizes now (link_at sizes row.life.index)) ≢ row.life.tag)
    ⊎ (mark_of (word_at sizes now (link_at sizes row.life.index)) ≡ 1)

-- a row isn't as it was recorded: its head, the link of one of its edges or its counter is another, or its vertex is
-- over
abbrev pub DiffersNow : Sizes → ScanValue → List Event → VertexRow → Type 0
DiffersNow sizes s now row =
    (word_at sizes now (second_at sizes row.life.index) ≢ row.head)
    ⊎ (HasOtherLink sizes s now row
    ⊎ ((word_at sizes now (third_at sizes row.life.index) ≢ row.counter)
    ⊎ IsVertexOver sizes now row))
