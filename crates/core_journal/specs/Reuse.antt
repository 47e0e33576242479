-- The end of a life, and safe reuse: a node is taken again only where each of its earlier lives has ended, and each
-- pass that is open then was announced after that end.
use Rattle.std.specs.Prelude.{◌≡◌, ℕ, ◌<◌, max, true, false, ◌⊎◌, List, Some, slice_get, take}
use Rattle.packed_link.specs.Layout.{Sizes}
use Rattle.packed_link.specs.declared.link.Life.{Life}
use Rattle.core_journal.specs.declared.event.Kind.TheVariants.{PopFree}
use Rattle.core_journal.specs.declared.event.Event.{Event}
use Rattle.core_journal.specs.Event.{cuts_edge, cut_life, unlinks, freezes_head}
use Rattle.core_journal.specs.Life.{link_of, unlinked}
use Rattle.core_journal.specs.State.{Pass, state}

-- a caller's pass after a journal
abbrev pub pass_in : Sizes → List Event → ℕ → Pass
pass_in sizes journal caller = (state sizes journal).pass caller

-- the life is unlinked by the event at a place
pub record IsUnlinkedAt (journal : List Event) (x : Life) (p : ℕ) : Type 0 where
  pub event : Event
  pub at : slice_get journal p ≡ Some event
  pub unlinks : unlinks event.kind ≡ true
  pub life : event.life ≡ x

-- an edge life that is never unlinked is marked, and the list of its source is closed; this place is that of the later
-- of the two events
pub record IsHandedAt (journal : List Event) (x : Life) (p : ℕ) : Type 0 where
  pub stays : unlinked journal x ≡ false
  pub link : Event
  pub edge : link_of journal x ≡ Some link
  pub mark_place : ℕ
  pub mark : Event
  pub mark_at : slice_get journal mark_place ≡ Some mark
  pub marks : cuts_edge mark.kind ≡ true
  pub mark_life : cut_life mark ≡ x
  pub head_place : ℕ
  pub head : Event
  pub head_at : slice_get journal head_place ≡ Some head
  pub freezes : freezes_head head.kind ≡ true
  pub head_life : head.life ≡ link.source
  pub later : p ≡ max mark_place head_place

-- the life ends at a place: it is unlinked there, or handed over
abbrev pub EndsAt : List Event → Life → ℕ → Type 0
EndsAt journal x p = IsUnlinkedAt journal x p ⊎ IsHandedAt journal x p

-- a life has ended, and each pass that is open was announced after its end
pub record IsOver (sizes : Sizes) (journal : List Event) (x : Life) : Type 0 where
  pub end : ℕ
  pub ends : EndsAt journal x end
  pub passes : (caller : ℕ) → (pass_in sizes journal caller).is_open ≡ true → end < (pass_in sizes journal caller).since

-- whenever a node is taken, each life for which it was taken before is over
pub record ReusesSafely (sizes : Sizes) (journal : List Event) : Type 0 where
  pub each : (q : ℕ) (e : Event) → slice_get journal q ≡ Some e → e.kind ≡ PopFree
      → (k : ℕ) (earlier : Event) → k < q → slice_get journal k ≡ Some earlier → earlier.kind ≡ PopFree
      → earlier.life.index ≡ e.life.index
      → IsOver sizes (take q journal) earlier.life
