-- What a hand tells that gets a node ready for an edge, and that replaces an edge by it.
use Rattle.std.specs.Prelude.{◌≡◌, ℕ, Bool, true, false, [], ◌∷◌, None, Some}
use Rattle.graph_kinds.specs.History.{Every}
use Rattle.graph_kinds.specs.declared.call.Call.TheVariants.{AddEdge}
use Rattle.packed_link.specs.Layout.{free_at}
use Rattle.packed_link.specs.declared.link.Life.{Life}
use Rattle.core_journal.specs.declared.event.Kind.TheVariants.{ReplaceEdge}
use Rattle.core_journal.specs.declared.event.Event.{Event}
use Rattle.core_journal.specs.Right.{NoneFree}
use Rattle.core_rule.specs.declared.view.View.{View}
use Rattle.core_stretches.specs.Holdings.{IsHeldFresh}
use Rattle.core_stretches.specs.Makes.{Makes}
use Rattle.edge_list.specs.EdgeChanges.{CarriesBetween}
use Rattle.edge_list.specs.EdgePositions.{IsUnmarkedEdge}
use Rattle.edge_list.specs.declared.edge.Edge.{Edge}
use Rattle.edge_list.specs.declared.walks.EdgeSighting.{EdgeSighting}
use Rattle.node_arena.specs.declared.taking.Taken.{Taken}
use Rattle.node_arena.specs.declared.taking.Taken.TheVariants as taken
use Rattle.graph_updates.specs.EdgeAdding.{IsUnraised}
use Rattle.graph_updates.specs.EdgeRemoving.{GoesOnBare}
use Rattle.graph_updates.specs.Hands.{HandValue, HasItsNodes}
use Rattle.graph_updates.specs.Parts.{Fell, GoesOnBy, LeavesGraph}

-- the hand with a node as its spare one
abbrev pub holding : HandValue → Life → HandValue
holding h x = record { token = h.token; limbo = h.limbo; spare = Some x; uses = h.uses; retired = h.retired }

-- a node is ready, which the hand held or took, and which is its own still; it has no other
pub record IsNodeReady (x : Life) (old new : HandValue) : Type 0 where
  pub spare : new.spare ≡ None
  pub held : IsHeldFresh new.token.view x
  pub on : GoesOnBy true old (holding new x)
  pub unraised : IsUnraised old.token.view new.token.view
  pub at : Every (λ (e : Event). e.place ≡ free_at old.token.view.sizes) unraised.own

-- no node is ready: the hand held none, and took none
pub record IsNoneReady (old new : HandValue) : Type 0 where
  pub spare : new.spare ≡ None
  pub on : GoesOnBy true old new
  pub makes : Makes old.token.view [] new.token.view

-- a node is ready, or none was free, or another caller changed the free list
abbrev pub MatchNodeReady : Taken → HandValue → HandValue → Type 0
MatchNodeReady (taken.Node x) old new = IsNodeReady x old new
MatchNodeReady taken.Empty old new = IsNoneReady old new × NoneFree old.token.view.sizes new.token.view.front
MatchNodeReady taken.Lost old new =
    IsNoneReady old new × Fell 1 new.token.view.number old.token.view.front new.token.view.front

-- an edge of a source, which was unmarked right before, was replaced by the hand's last event by one of another weight,
-- which gives its pair the new weight if both ends are present; what the hand made before that leaves the graph
pub record IsReplacedOnce (source : Life) (edge : Edge) (weight : ℕ) (old new : HandValue) : Type 0 where
  pub before : View
  pub event : Event
  pub first : LeavesGraph true 0 0 old.token.view before
  pub makes : Makes before (event ∷ []) new.token.view
  pub kind : event.kind ≡ ReplaceEdge
  pub source_is : event.source ≡ source
  pub target_is : event.target ≡ edge.target
  pub weight_is : event.weight ≡ weight
  pub carries : CarriesBetween source edge.target (λ a b. AddEdge a b weight) event new.token.view
  pub unmarked : IsUnmarkedEdge source edge carries.past
  pub spare : new.spare ≡ None
  pub nodes : HasItsNodes new
  pub uses : new.uses ≡ old.uses

-- an edge that was seen was replaced, or a foreign event fell since then and the hand has its node still
abbrev pub MatchReplacedOnce : Bool → (source : Life) → EdgeSighting → (weight : ℕ) → HandValue → HandValue → Type 0
MatchReplacedOnce true source s weight old new = IsReplacedOnce source s.edge weight old new
MatchReplacedOnce false source s weight old new =
    GoesOnBare old new × Fell 1 new.token.view.number s.moment.value.view.front new.token.view.front
