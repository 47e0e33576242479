-- What removing an edge tells, try by try.
use Rattle.std.specs.Prelude.{◌≡◌, ◌<◌, ℕ, true, false, List, [], ◌∷◌}
use Rattle.graph_kinds.specs.Answer.{answer, plain}
use Rattle.graph_kinds.specs.declared.call.Call.TheVariants.{RemoveEdge}
use Rattle.graph_kinds.specs.declared.outcome.Outcome.TheVariants.{Removed}
use Rattle.packed_link.specs.declared.link.Life.{Life}
use Rattle.core_journal.specs.declared.event.Event.{Event}
use Rattle.core_journal.specs.GraphOf.{graph_of}
use Rattle.core_journal.specs.Life.{edge_marked, vertex_marked}
use Rattle.core_journal.specs.Prefix.{IsPrefix}
use Rattle.core_counts.specs.Totals.{RaisesOnce}
use Rattle.core_lists.specs.Replacements.{IsReplacedBy}
use Rattle.core_rule.specs.OwnEvents.{mark_edge_event}
use Rattle.core_rule.specs.declared.view.View.{View}
use Rattle.core_stretches.specs.Makes.{Makes}
use Rattle.edge_list.specs.EdgeChanges.{CarriesBetween}
use Rattle.edge_list.specs.EdgePositions.{IsUnmarkedEdge}
use Rattle.edge_list.specs.declared.edge.Edge.{Edge}
use Rattle.edge_list.specs.declared.marking.EdgeMarked.{EdgeMarked}
use Rattle.edge_list.specs.declared.marking.EdgeMarked.TheVariants.{Won, Was, Replaced}
use Rattle.edge_list.specs.declared.walks.EdgeSighting.{EdgeSighting}
use Rattle.graph_table.specs.Tokens.{TokenValue}
use Rattle.graph_updates.specs.EdgeLocating.{WasEdgeHere}
use Rattle.graph_updates.specs.Exchanges.{IsOvertakenBy}
use Rattle.graph_updates.specs.Hands.{HandValue, HasItsNodes}
use Rattle.graph_updates.specs.Pairs.{AreEnds, MatchLack}
use Rattle.graph_updates.specs.Parts.{CarriesOutBy, Fell, GoesOnBy, HasHelped, LeavesGraph}
use Rattle.graph_updates.specs.declared.pairs.Ends.{Ends}
use Rattle.graph_updates.specs.declared.edge_removing.EdgeRemoveTried.{EdgeRemoveTried}
use Rattle.graph_updates.specs.declared.edge_removing.EdgeRemoveTried.TheVariants as tried
use Rattle.graph_updates.specs.declared.edge_removing.EdgeRemoving.{EdgeRemoving}
use Rattle.graph_updates.specs.declared.edge_removing.EdgeRemoving.TheVariants as removing

-- what a caller raised since a start is for edges that are over by the end of a stretch, where its raises before the
-- stretch were: for each start up to a moment at which the source wasn't marked
pub record RaisesSince (source : Life) (moment : List Event) (v w : View) : Type 0 where
  pub each : (start : List Event) (again : ℕ) → IsPrefix start moment → vertex_marked start source ≡ false
      → RaisesOnce start v.front v.number again [] → RaisesOnce w.front w.front w.number again []

-- a part of removing an edge that leaves the graph, and takes no node
pub record GoesOnBare (old new : HandValue) : Type 0 where
  pub stretch : LeavesGraph true 0 0 old.token.view new.token.view
  pub spare : new.spare ≡ old.spare
  pub nodes : HasItsNodes new
  pub uses : new.uses ≡ old.uses

-- an edge of a source was marked by the hand's last event, which takes its pair from the graph if both ends are
-- present; what it made before that leaves the graph
pub record IsMarkedOnce (source : Life) (edge : Edge) (old new : HandValue) : Type 0 where
  pub before : View
  pub found : ℕ
  pub first : LeavesGraph true 0 0 old.token.view before
  pub makes : Makes before (mark_edge_event before edge.life found ∷ []) new.token.view
  pub carries : CarriesBetween source edge.target RemoveEdge (mark_edge_event before edge.life found) new.token.view
  pub unmarked : IsUnmarkedEdge source edge carries.past
  pub uses : new.uses ≡ old.uses

-- the mark of an edge was there before, and no event replaced the edge
pub record WasMarkedOnce (edge : Life) (old new : HandValue) : Type 0 where
  pub on : GoesOnBare old new
  pub marked : edge_marked new.token.view.front edge ≡ true
  pub unreplaced : (other : Life) → IsReplacedBy new.token.view.front edge other → ⊥

-- what marking an edge that was seen came to: if it was replaced, a foreign event fell since then
abbrev pub MatchMarkedOnce : EdgeMarked → Life → EdgeSighting → HandValue → HandValue → Type 0
MatchMarkedOnce Won source s old new = IsMarkedOnce source s.edge old new
MatchMarkedOnce Was source s old new = WasMarkedOnce s.edge.life old new
MatchMarkedOnce Replaced source s old new =
    GoesOnBare old new × Fell 1 new.token.view.number s.moment.value.view.front new.token.view.front

-- the ends of a pair were located in a stretch that helped, and its edge was seen since then
pub record IsPairSeen (a b : ℕ) (ends : Ends) (s : EdgeSighting) (old now : HandValue) : Type 0 where
  pub nodes : HasItsNodes old
  pub helped : HasHelped old now
  pub mid : View
  pub ends_are : AreEnds a b old.token.view mid ends
  pub here : WasEdgeHere ends.from b mid now.token.view s
  pub target : s.edge.target ≡ ends.to

-- the edge, of this weight, was marked by this call
pub record IsEdgeRemoved (a b weight : ℕ) (old new : HandValue) (m : TokenValue) : Type 0 where
  pub carries : CarriesOutBy true (RemoveEdge a b) 0 0 old.token.view new.token.view m.view.front
  pub reply : plain (Removed weight) ≡ answer (graph_of carries.carries.past) (RemoveEdge a b)
  pub nodes : HasItsNodes new
  pub uses : new.uses ≡ old.uses

-- what one walk and the mark of its edge came to; if that was lost, a foreign event fell since a view
abbrev pub MatchPairMarked : EdgeRemoveTried → (a b : ℕ) → (since : View) → HandValue → HandValue → Type 0
MatchPairMarked (tried.Marked weight m) a b since old new = IsEdgeRemoved a b weight old new m.value
MatchPairMarked (tried.Overtaken ends m) a b since old new =
    IsOvertakenBy (RemoveEdge a b) a b 0 ends old new m.value.view.front
MatchPairMarked (tried.Lacks l) a b since old new =
    GoesOnBy true old new × MatchLack l a b old.token.view new.token.view
MatchPairMarked tried.Lost a b since old new =
    GoesOnBare old new × Fell 1 new.token.view.number since.front new.token.view.front
MatchPairMarked tried.Again a b since old new = ⊥

-- what one try came to
abbrev pub MatchEdgeRemoveTried : EdgeRemoveTried → (a b lost tries : ℕ) → HandValue → HandValue → Type 0
MatchEdgeRemoveTried (tried.Marked weight m) a b lost tries old new = IsEdgeRemoved a b weight old new m.value
MatchEdgeRemoveTried (tried.Overtaken ends m) a b lost tries old new =
    IsOvertakenBy (RemoveEdge a b) a b 0 ends old new m.value.view.front
MatchEdgeRemoveTried (tried.Lacks l) a b lost tries old new =
    GoesOnBy true old new × MatchLack l a b old.token.view new.token.view
MatchEdgeRemoveTried tried.Lost a b lost tries old new = GoesOnBare old new × (lost < tries)
MatchEdgeRemoveTried tried.Again a b lost tries old new = GoesOnBy true old new × (lost ≡ tries)

-- what all tries came to
abbrev pub MatchEdgeRemoving : EdgeRemoving → (a b tries : ℕ) → HandValue → HandValue → Type 0
MatchEdgeRemoving (removing.Marked weight m) a b tries old new = IsEdgeRemoved a b weight old new m.value
MatchEdgeRemoving (removing.Overtaken ends m) a b tries old new =
    IsOvertakenBy (RemoveEdge a b) a b 0 ends old new m.value.view.front
MatchEdgeRemoving (removing.Lacks l) a b tries old new =
    GoesOnBy true old new × MatchLack l a b old.token.view new.token.view
MatchEdgeRemoving removing.Again a b tries old new =
    GoesOnBy true old new × Fell tries new.token.view.number old.token.view.front new.token.view.front
