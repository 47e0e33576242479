-- What adding a vertex tells, try by try.
use Rattle.std.specs.Prelude.{◌≡◌, ℕ, ◌+◌, ◌≤◌, List, [], ◌∷◌, Option, None, false}
use Rattle.graph_kinds.specs.History.{Every}
use Rattle.graph_kinds.specs.declared.call.Call.TheVariants.{AddVertex}
use Rattle.packed_link.specs.Layout.{free_at}
use Rattle.packed_link.specs.declared.link.Life.{Life}
use Rattle.core_journal.specs.declared.event.Kind.TheVariants.{LinkVertex}
use Rattle.core_journal.specs.declared.event.Event.{Event}
use Rattle.core_journal.specs.Event.{pops}
use Rattle.core_journal.specs.Right.{NoneFree}
use Rattle.core_rule.specs.Stretches.{HasNoFresh}
use Rattle.core_rule.specs.declared.view.View.{View}
use Rattle.core_stretches.specs.Holdings.{IsHeldFresh}
use Rattle.core_stretches.specs.Makes.{Makes, of_kinds}
use Rattle.core_stretches.specs.Moments.{Carries}
use Rattle.node_arena.specs.Taking.{FoundEmpty, IsTakeLost}
use Rattle.node_arena.specs.declared.taking.Taken.{Taken}
use Rattle.node_arena.specs.declared.taking.Taken.TheVariants as taken
use Rattle.graph_table.specs.Tokens.{TokenValue}
use Rattle.vertex_list.specs.Positions.{PositionValue}
use Rattle.graph_updates.specs.Hands.{HandValue, HasItsNodes, HoldsNoOther, HoldsSpare}
use Rattle.graph_updates.specs.Locating.{WasGone, WasHere}
use Rattle.graph_updates.specs.Parts.{CarriesOutBy, Fell, GoesOnBy, IsReadying, may_take}
use Rattle.graph_updates.specs.declared.adding.AddTried.{AddTried}
use Rattle.graph_updates.specs.declared.adding.AddTried.TheVariants as tried
use Rattle.graph_updates.specs.declared.adding.Adding.{Adding}
use Rattle.graph_updates.specs.declared.adding.Adding.TheVariants as adding
use Rattle.graph_updates.specs.declared.adding.Placing.{Placing}
use Rattle.graph_updates.specs.declared.adding.Placing.TheVariants as placed

-- from a view to a later one the token took at most so many nodes and filled fresh ones, and made no other events
pub record Readies (taken : ℕ) (v w : View) : Type 0 where
  pub own : List Event
  pub are : Every (λ (e : Event). IsReadying e.kind) own
  pub makes : Makes v own w
  pub takes : of_kinds pops own ≤ taken

-- a node is fresh with the token: it was the spare one, or was taken from the free list
pub record IsNodeFor (spare : Option Life) (v w : View) (x : Life) : Type 0 where
  pub readied : Readies (may_take spare) v w
  pub at : Every (λ (e : Event). e.place ≡ free_at v.sizes) readied.own
  pub held : IsHeldFresh w x

-- a node for a vertex; or the free list was found empty; or another caller changed it
abbrev pub MatchNode : Taken → Option Life → View → View → Type 0
MatchNode (taken.Node x) spare v w = IsNodeFor spare v w x
MatchNode taken.Empty spare v w = (spare ≡ None) × FoundEmpty v w
MatchNode taken.Lost spare v w = (spare ≡ None) × IsTakeLost v w

-- a node was linked by the last event of the front, which adds the key to the graph
pub record IsNodePlaced (key : ℕ) (spare : Option Life) (v w : View) (m : TokenValue) : Type 0 where
  pub before : View
  pub event : Event
  pub first : Readies (may_take spare) v before
  pub makes : Makes before (event ∷ []) w
  pub kind : event.kind ≡ LinkVertex
  pub carries : Carries (AddVertex key) event w
  pub moment : m.view.front ≡ w.front
  pub none : HasNoFresh w

-- a node wasn't linked: it's the spare one now, if there's one, and a foreign event fell since a moment
pub record IsPlaceLost (since : List Event) (spare : Option Life) (v w : View) (new : Option Life) : Type 0 where
  pub taken : ℕ
  pub first : Readies taken v w
  pub spares : taken + may_take new ≤ may_take spare
  pub held : HoldsSpare new w
  pub other : HoldsNoOther new w
  pub fell : Fell 1 w.number since w.front

-- what placing a node at a position came to
abbrev pub MatchPlacing : Placing → Option Life → PositionValue → View → View → Type 0
MatchPlacing (placed.Linked m) spare p v w = IsNodePlaced p.key spare v w m.value
MatchPlacing (placed.Full q) spare p v w = (q ≡ p) × ((spare ≡ None) × FoundEmpty v w)
MatchPlacing (placed.Lost new) spare p v w = IsPlaceLost p.moment spare v w new

-- what a hand keeps while it places a node
pub record IsSameBut (old new : HandValue) : Type 0 where
  pub limbo : new.limbo ≡ old.limbo
  pub uses : new.uses ≡ old.uses
  pub retired : new.retired ≡ old.retired

-- the same of a hand; its key isn't looked for
abbrev pub MatchPlacingAt : AddTried → PositionValue → HandValue → HandValue → Type 0
MatchPlacingAt (tried.Linked m) p old new =
    IsSameBut old new × ((new.spare ≡ None) × IsNodePlaced p.key old.spare old.token.view new.token.view m.value)
MatchPlacingAt (tried.There s) p old new = ⊥
MatchPlacingAt (tried.Full q) p old new =
    IsSameBut old new × ((q ≡ p) × ((old.spare ≡ None) × ((new.spare ≡ None)
    × FoundEmpty old.token.view new.token.view)))
MatchPlacingAt tried.Lost p old new =
    IsSameBut old new × IsPlaceLost p.moment old.spare old.token.view new.token.view new.spare

-- a vertex of the key was linked, and at most one node was taken for it
pub record IsAdded (key : ℕ) (old new : HandValue) (m : TokenValue) : Type 0 where
  pub carries : CarriesOutBy false (AddVertex key) (may_take old.spare) 0 old.token.view new.token.view m.view.front
  pub spare : new.spare ≡ None
  pub nodes : HasItsNodes new
  pub uses : new.uses ≡ old.uses

-- no node was free at the end, and the key was missing at a moment before
pub record IsFullAt (key : ℕ) (old new : HandValue) (q : PositionValue) : Type 0 where
  pub on : GoesOnBy false old new
  pub gone : WasGone key old.token.view new.token.view q
  pub empty : NoneFree new.token.view.sizes new.token.view.front
  pub bare : new.spare ≡ None

-- what one try came to
abbrev pub MatchAddTried : AddTried → ℕ → HandValue → HandValue → Type 0
MatchAddTried (tried.Linked m) key old new = IsAdded key old new m.value
MatchAddTried (tried.There s) key old new = GoesOnBy false old new × WasHere key old.token.view new.token.view s
MatchAddTried (tried.Full q) key old new = IsFullAt key old new q
MatchAddTried tried.Lost key old new =
    GoesOnBy false old new × Fell 1 new.token.view.number old.token.view.front new.token.view.front

-- what all tries came to
abbrev pub MatchAdding : Adding → (key tries : ℕ) → HandValue → HandValue → Type 0
MatchAdding (adding.Linked m) key tries old new = IsAdded key old new m.value
MatchAdding (adding.There s) key tries old new = GoesOnBy false old new × WasHere key old.token.view new.token.view s
MatchAdding (adding.Full q) key tries old new = IsFullAt key old new q
MatchAdding adding.Again key tries old new =
    GoesOnBy false old new × Fell tries new.token.view.number old.token.view.front new.token.view.front
