-- How a node becomes spent with a caller, and what a caller got since a front.
use Rattle.std.specs.Prelude.{◌≡◌, ◌≢◌, ◌⊎◌, ℕ, Bool, true, false, not, List, [], ◌∷◌, ◌++◌, Option, Some, None}
use Rattle.graph_kinds.specs.Levels.{stands_in}
use Rattle.packed_link.specs.Layout.{Sizes}
use Rattle.core_journal.specs.declared.event.Kind.{Kind}
use Rattle.core_journal.specs.declared.event.Kind.TheVariants.{FreezeHead, PushFree}
use Rattle.core_journal.specs.declared.event.Event.{Event}
use Rattle.core_journal.specs.Event.{draws, unlinks}
use Rattle.core_journal.specs.State.{State, state}
use Rattle.core_kept.specs.Freezing.{IsSpentVertex}
use Rattle.core_lists.specs.Chains.{IsBeingFrozen}
use Rattle.core_kept.specs.Nodes.{is_frozen, is_listed, IsFrozenToEnd, IsSpentWith, IsLinkedEdge}

-- all kinds but the draw of a number
abbrev pub acts : Kind → Bool
acts k = not (draws k)

-- an event of the caller itself unlinked the node
pub record IsOwnUnlink (e : Event) (caller y : ℕ) : Type 0 where
  pub unlinks : unlinks e.kind ≡ true
  pub mine : e.caller ≡ caller
  pub life : e.life.index ≡ y

-- a linked edge stands on the list of a vertex that the caller spent, which isn't frozen to its end, and is of the
-- frozen part of this list behind the event
pub record IsHandedOver (sizes : Sizes) (past : List Event) (e : Event) (caller y : ℕ) : Type 0 where
  pub vertex : ℕ
  pub spent : IsSpentVertex sizes past caller vertex
  pub listed : is_listed (state sizes past) vertex y ≡ true
  pub edge : IsLinkedEdge sizes past y
  pub unfinished : IsFrozenToEnd sizes past vertex → ⊥
  pub on : is_frozen (state sizes (past ++ e ∷ [])) vertex y ≡ true

-- a node is of the frozen part of that list
abbrev pub IsOnPart : State → Option ℕ → ℕ → Type 0
IsOnPart s None y = ⊥
IsOnPart s (Some x) y = is_frozen s x y ≡ true

-- that vertex is spent with the caller
abbrev pub IsHolder : Sizes → List Event → ℕ → Option ℕ → Type 0
IsHolder sizes journal caller None = Unit {0}
IsHolder sizes journal caller (Some x) = IsSpentVertex sizes journal caller x

-- the list of each vertex that is spent with a caller, but of the one whose list is being frozen, is open at its head
-- or frozen to its end
pub record AreFinished (sizes : Sizes) (journal : List Event) (caller : ℕ) (but : Option ℕ) : Type 0 where
  pub each : (v : ℕ) → (IsBeingFrozen but v → ⊥) → IsSpentVertex sizes journal caller v
      → (state sizes journal).frozen v ≡ true → IsFrozenToEnd sizes journal v

-- a node was spent with the caller at a front, or is one of those that it got, or of the part that is being frozen
abbrev pub IsKnown : Sizes → List Event → List Event → ℕ → Option ℕ → List ℕ → ℕ → Type 0
IsKnown sizes front journal caller but got y =
    (IsSpentWith sizes front caller y ⊎ (stands_in got y ≡ true)) ⊎ IsOnPart (state sizes journal) but y

-- from a front to a journal a caller got no spent node but these and those of the part that is being frozen, and the
-- other lists of vertices that it spent are open or frozen to their ends
pub record GotOnly (sizes : Sizes) (front journal : List Event) (caller : ℕ) (but : Option ℕ) (got : List ℕ)
    : Type 0 where
  pub finished : AreFinished sizes journal caller but
  pub holder : IsHolder sizes journal caller but
  pub old : (y : ℕ) → IsSpentWith sizes journal caller y → IsKnown sizes front journal caller but got y

-- an event of a caller by which it gets no node but those of the part that is being frozen: no unlink, no closing of
-- another list, and no giving back of the vertex whose list is being frozen
pub record GetsNone (but : Option ℕ) (e : Event) : Type 0 where
  pub unlinks : unlinks e.kind ≡ false
  pub closes : e.kind ≡ FreezeHead → IsBeingFrozen but e.life.index
  pub gives : IsBeingFrozen but e.life.index → e.kind ≢ PushFree
