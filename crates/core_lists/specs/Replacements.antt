-- Which edge was replaced by which, and where its link tells it.
use Rattle.std.specs.Prelude.{◌≡◌, ◌≢◌, ◌⊎◌, ℕ, true, List, Some, slice_get}
use Rattle.packed_link.specs.Link.{index_of, mark_of, nowhere}
use Rattle.packed_link.specs.Layout.{Sizes, key_at, link_at}
use Rattle.packed_link.specs.declared.link.Life.{Life}
use Rattle.core_journal.specs.declared.event.Kind.TheVariants.{ReplaceEdge}
use Rattle.core_journal.specs.declared.event.Event.{Event}
use Rattle.core_journal.specs.Machine.{word_at}
use Rattle.core_journal.specs.State.{state}
use Rattle.core_kept.specs.Nodes.{is_listed}
use Rattle.core_lists.specs.Chains.{HasList}
use Rattle.core_kept.specs.Facts.{HasMet}

-- an event of the journal replaced an edge by another
pub record IsReplacedBy (journal : List Event) (old new : Life) : Type 0 where
  pub number : ℕ
  pub event : Event
  pub at : slice_get journal number ≡ Some event
  pub kind : event.kind ≡ ReplaceEdge
  pub of_old : event.old ≡ old
  pub of_new : event.life ≡ new

-- one may come to a node: it stands on a list that isn't frozen to its end, or an open pass has met it
abbrev pub IsInReach : Sizes → List Event → ℕ → Type 0
IsInReach sizes journal x =
    ((home : ℕ) × HasList sizes journal home × (is_listed (state sizes journal) home x ≡ true))
    ⊎ ((caller : ℕ) × HasMet sizes journal caller x)

-- the link of a node is marked and leads to a node of its key
pub record LeadsToItsKey (sizes : Sizes) (journal : List Event) (x : ℕ) : Type 0 where
  pub marked : mark_of (word_at sizes journal (link_at sizes x)) ≡ 1
  pub some : index_of (word_at sizes journal (link_at sizes x)) ≢ nowhere
  pub key : word_at sizes journal (key_at sizes (index_of (word_at sizes journal (link_at sizes x))))
      ≡ word_at sizes journal (key_at sizes x)
