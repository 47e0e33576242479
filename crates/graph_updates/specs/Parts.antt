-- What the parts of a call tell: which events their token made, what that leaves, and what fell to lost tries.
use Rattle.std.specs.Prelude.{◌≡◌, ◌⊎◌, ℕ, ◌+◌, ◌≤◌, ◌||◌, Bool, false, List, [], ◌∷◌, length, ltb, Option, Some}
use Rattle.std.specs.Prelude.{None}
use Rattle.graph_kinds.specs.History.{Every}
use Rattle.graph_kinds.specs.declared.call.Call.{Call}
use Rattle.packed_link.specs.Layout.{IsLayout}
use Rattle.packed_link.specs.declared.link.Life.{Life}
use Rattle.core_journal.specs.declared.event.Kind.{Kind}
use Rattle.core_journal.specs.declared.event.Kind.TheVariants.{PopFree, StorePrivate, UnlinkVertex, UnlinkEdge}
use Rattle.core_journal.specs.declared.event.Kind.TheVariants.{FreezeHead, FreezeEdge}
use Rattle.core_journal.specs.declared.event.Event.{Event}
use Rattle.core_journal.specs.Event.{pops, raises, moves}
use Rattle.core_journal.specs.Foreign.{foreign}
use Rattle.core_counts.specs.Totals.{RaisesOnce}
use Rattle.core_rule.specs.declared.view.View.{View}
use Rattle.core_rule.specs.Stretches.{Leaves, Own as OwnEvents}
use Rattle.core_stretches.specs.Makes.{Makes, of_kinds}
use Rattle.core_stretches.specs.Moments.{Carries}
use Rattle.epoch_limbo.specs.Limbos.{LimboValue}
use Rattle.graph_updates.specs.Hands.{HandValue, HasItsNodes, IsRoomyLimbo, HasAllSpent}

-- from a view to a later one the token made events of some kinds only
pub record MakesOnly (P : Kind → Type 0) (v w : View) : Type 0 where
  pub own : List Event
  pub are : Every (λ (e : Event). P e.kind) own
  pub makes : Makes v own w

-- the kinds that help: a marked node is unlinked, and the list of a vertex is closed and frozen
abbrev pub IsHelp : Kind → Type 0
IsHelp k = (k ≡ UnlinkVertex) ⊎ ((k ≡ UnlinkEdge) ⊎ ((k ≡ FreezeHead) ⊎ (k ≡ FreezeEdge)))

-- the kinds that make a node ready: it's taken, and filled
abbrev pub IsReadying : Kind → Type 0
IsReadying k = (k ≡ PopFree) ⊎ (k ≡ StorePrivate)

-- a stretch of a call that leaves the graph, each of its own events; the token took at most so many nodes in it, moved
-- the epoch on at most so often, and raised no counter unless the call is one that raises
pub record LeavesGraph (raising : Bool) (taken moved : ℕ) (v w : View) : Type 0 where
  pub own : List Event
  pub makes : Makes v own w
  pub leaves : IsLayout v.sizes → OwnEvents Leaves v w
  pub takes : of_kinds pops own ≤ taken
  pub shifts : of_kinds moves own ≤ moved
  pub raised : raising ≡ false → of_kinds raises own ≡ 0

-- a stretch of a call that carries the call out: one own event does, at the end of a front, and all others leave the
-- graph
pub record CarriesOutBy (raising : Bool) (call : Call) (taken moved : ℕ) (v w : View) (at : List Event) : Type 0 where
  pub before : View
  pub done : View
  pub event : Event
  pub first : LeavesGraph raising taken 0 v before
  pub makes : Makes before (event ∷ []) done
  pub unlike : (pops event.kind ≡ false) × ((moves event.kind ≡ false) × (raises event.kind ≡ false))
  pub carries : Carries call event done
  pub at_is : at ≡ done.front
  pub last : LeavesGraph raising 0 moved done w

-- what a caller raised before a stretch of its was for edges that are over, but for so many; then so is what it raised
-- by the end of the stretch, but for so many more, which it gave up
pub record RaisesDone (more : ℕ) (v w : View) : Type 0 where
  pub each : (again : ℕ) → RaisesOnce v.front v.front v.number again []
      → RaisesOnce w.front w.front w.number (again + more) []

-- at least so many foreign events stand between two fronts
pub record Fell (n caller : ℕ) (old new : List Event) : Type 0 where
  pub least : n ≤ foreign new caller (length old) (length new)

-- what a walk that helps leaves: its own events help, the limbo is of the token still and has grown, if it changed, and
-- it has all that the token spent where it had
pub record Helps (old new : LimboValue) (v w : View) : Type 0 where
  pub only : MakesOnly IsHelp v w
  pub limbo : IsRoomyLimbo new w
  pub all : HasAllSpent old v → HasAllSpent new w
  pub more : length old.nodes ≤ length new.nodes

-- the same of a hand, which knows then whether it retired a node
pub record HasHelped (old new : HandValue) : Type 0 where
  pub helped : Helps old.limbo new.limbo old.token.view new.token.view
  pub nodes : HasItsNodes old → HasItsNodes new
  pub spare : new.spare ≡ old.spare
  pub uses : new.uses ≡ old.uses
  pub retired : new.retired ≡ (old.retired || ltb (length old.limbo.nodes) (length new.limbo.nodes))

-- how many nodes a call may take that holds this spare one, or none
abbrev pub may_take : Option Life → ℕ
may_take None = 1
may_take (Some x) = 0

-- a part of a call that leaves the graph: the hand has its nodes and as many uses, and took a node only where it had no
-- spare one
pub record GoesOnBy (raising : Bool) (old new : HandValue) : Type 0 where
  pub taken : ℕ
  pub stretch : LeavesGraph raising taken 0 old.token.view new.token.view
  pub spares : taken + may_take new.spare ≤ may_take old.spare
  pub nodes : HasItsNodes new
  pub uses : new.uses ≡ old.uses
