-- How the counter of an edge's source stood when the edge was linked, against later.
use Rattle.std.specs.Prelude.{◌≡◌, ℕ, ◌<◌, List, Some, slice_get, take}
use Rattle.packed_link.specs.Layout.{Sizes, third_at}
use Rattle.core_journal.specs.declared.event.Event.{Event}
use Rattle.core_journal.specs.Machine.{word_at}
use Rattle.core_kept.specs.Counts.{raised}

-- an edge was linked before a position of the journal, and the counter of its source was lower then than at that
-- position: by the raises of the source's life, and by the word
pub record IsLinkedLower (sizes : Sizes) (journal : List Event) (position : ℕ) (link : Event) : Type 0 where
  pub place : ℕ
  pub before : place < position
  pub at : slice_get journal place ≡ Some link
  pub raises : raised link.source (take place journal) < raised link.source (take position journal)
  pub word : word_at sizes (take place journal) (third_at sizes link.source.index)
      < word_at sizes (take position journal) (third_at sizes link.source.index)
