-- What taking a node tells.
use Rattle.std.specs.Prelude.{◌≡◌, ◌⊎◌, ℕ, ◌<◌, List, [], ◌∷◌}
use Rattle.packed_link.specs.Layout.{free_at}
use Rattle.packed_link.specs.Link.{index_of, nowhere}
use Rattle.packed_link.specs.declared.link.Life.{Life}
use Rattle.core_journal.specs.declared.event.Event.{Event}
use Rattle.core_journal.specs.Machine.{word_at}
use Rattle.core_lists.specs.Changed.{IsChangedByAnother}
use Rattle.core_rule.specs.OwnEvents.{pop_event}
use Rattle.core_rule.specs.declared.view.View.{View}
use Rattle.core_stretches.specs.Holdings.{IsHeldFresh}
use Rattle.core_stretches.specs.Makes.{Makes}
use Rattle.core_stretches.specs.Moments.{HoldsBetween, EndsBy}
use Rattle.node_arena.specs.declared.taking.Taken.{Taken}
use Rattle.node_arena.specs.declared.taking.Taken.TheVariants.{Node, Empty, Lost}

-- the word of the free list is this one
abbrev pub FreeWordIs : View → ℕ → List Event → Type 0
FreeWordIs v word journal = word_at v.sizes journal (free_at v.sizes) ≡ word

-- a node was taken: the call loaded a word of the free list that leads to it, and took it for the life behind its last
pub record IsTaken (v w : View) (x : Life) : Type 0 where
  pub seen : ℕ
  pub next : ℕ
  pub loaded : List Event
  pub found : HoldsBetween v.front w.front (FreeWordIs v seen) loaded
  pub some : index_of seen < v.sizes.nodes
  pub life : x ≡ (pop_event v seen next).life
  pub makes : Makes v (pop_event v seen next ∷ []) w
  pub last : EndsBy (pop_event v seen next) w
  pub held : IsHeldFresh w x

-- the free list is empty at the new front, where the call loaded its word
pub record FoundEmpty (v w : View) : Type 0 where
  pub makes : Makes v [] w
  pub empty : index_of (word_at w.sizes w.front (free_at w.sizes)) ≡ nowhere

-- another caller changed the word of the free list after this call had loaded it, and it led to a node then
pub record IsTakeLost (v w : View) : Type 0 where
  pub makes : Makes v [] w
  pub seen : ℕ
  pub loaded : List Event
  pub found : HoldsBetween v.front w.front (FreeWordIs v seen) loaded
  pub some : index_of seen < v.sizes.nodes
  pub changed : IsChangedByAnother loaded w.front w.number (free_at w.sizes)

-- no node was taken: the free list was found empty, or another caller changed its word before that
abbrev pub TookNone : View → View → Type 0
TookNone v w = FoundEmpty v w ⊎ IsTakeLost v w

abbrev pub MatchTaken : Taken → View → View → Type 0
MatchTaken (Node x) v w = IsTaken v w x
MatchTaken Empty v w = FoundEmpty v w
MatchTaken Lost v w = IsTakeLost v w
