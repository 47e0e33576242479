-- Where a call on two vertices is overtaken: the first event that marks one of them.
use Rattle.std.specs.Prelude.{◌≡◌, ◌⊎◌, ℕ, true, false, List, Some, take, slice_get}
use Rattle.packed_link.specs.declared.link.Life.{Life}
use Rattle.core_journal.specs.declared.event.Event.{Event}
use Rattle.core_journal.specs.Event.{marks_vertex}
use Rattle.core_journal.specs.Life.{vertex_linked, vertex_marked}

-- a vertex life is linked, and not marked
pub record IsLiving (journal : List Event) (x : Life) : Type 0 where
  pub linked : vertex_linked journal x ≡ true
  pub unmarked : vertex_marked journal x ≡ false

-- the event of this number marks one of two vertex lives, and none before it does
pub record IsFirstMark (journal : List Event) (u v : Life) (m : ℕ) : Type 0 where
  pub mark : Event
  pub at : slice_get journal m ≡ Some mark
  pub kind : marks_vertex mark.kind ≡ true
  pub life : (mark.life ≡ u) ⊎ (mark.life ≡ v)
  pub first_of_u : vertex_marked (take m journal) u ≡ false
  pub first_of_v : vertex_marked (take m journal) v ≡ false
