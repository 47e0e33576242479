-- The first event that marks a life, by whichever caller.
use Rattle.std.specs.Prelude.{◌≡◌, ℕ, true, false, List, Some, take, slice_get}
use Rattle.packed_link.specs.declared.link.Life.{Life}
use Rattle.core_journal.specs.declared.event.Event.{Event}
use Rattle.core_journal.specs.Event.{cuts_edge, cut_life, marks_vertex}
use Rattle.core_journal.specs.Life.{edge_marked, vertex_marked}

-- the event of this number marks a vertex life, and none before it does
pub record IsMarkOf (journal : List Event) (x : Life) (m : ℕ) : Type 0 where
  pub event : Event
  pub at : slice_get journal m ≡ Some event
  pub marks : marks_vertex event.kind ≡ true
  pub life : event.life ≡ x
  pub unmarked : vertex_marked (take m journal) x ≡ false

-- the event of this number marks an edge life, by its removal, its replacement or the freezing of its list, and none
-- before it does
pub record IsCutOf (journal : List Event) (x : Life) (m : ℕ) : Type 0 where
  pub event : Event
  pub at : slice_get journal m ≡ Some event
  pub cuts : cuts_edge event.kind ≡ true
  pub life : cut_life event ≡ x
  pub uncut : edge_marked (take m journal) x ≡ false
