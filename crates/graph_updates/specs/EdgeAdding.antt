-- What adding an edge tells, try by try.
use Rattle.std.specs.Prelude.{◌≡◌, ◌⊎◌, ◌<◌, ℕ, true, false, List, None}
use Rattle.graph_kinds.specs.Answer.{answer, is_change, plain}
use Rattle.graph_kinds.specs.declared.call.Call.TheVariants.{AddEdge}
use Rattle.graph_kinds.specs.declared.outcome.Outcome.{Outcome}
use Rattle.graph_kinds.specs.declared.outcome.Outcome.TheVariants.{NoVertex}
use Rattle.core_journal.specs.declared.event.Event.{Event}
use Rattle.core_journal.specs.GraphOf.{graph_of}
use Rattle.core_journal.specs.Life.{vertex_marked}
use Rattle.core_journal.specs.Right.{NoneFree}
use Rattle.core_rule.specs.declared.view.View.{View}
use Rattle.core_journal.specs.Event.{raises}
use Rattle.core_stretches.specs.Makes.{Makes, StaysInPass, of_kinds}
use Rattle.core_stretches.specs.Moments.{HoldsBetween, LacksEdge}
use Rattle.graph_kinds.specs.History.{Every}
use Rattle.packed_link.specs.declared.link.Life.{Life}
use Rattle.edge_list.specs.declared.marking.EdgeMarked.{EdgeMarked}
use Rattle.edge_list.specs.declared.marking.EdgeMarked.TheVariants as mark
use Rattle.graph_table.specs.Tokens.{TokenValue}
use Rattle.graph_updates.specs.Exchanges.{ExchangesOn, IsOvertakenBy}
use Rattle.graph_updates.specs.Hands.{HandValue, HasItsNodes}
use Rattle.graph_updates.specs.Pairs.{HasPair, MatchLack, lack_outcome}
use Rattle.graph_updates.specs.Parts.{CarriesOutBy, Fell, GoesOnBy, may_take}
use Rattle.graph_updates.specs.Replying.{NeedsNode}
use Rattle.graph_updates.specs.declared.pairs.Ends.{Ends}
use Rattle.graph_updates.specs.declared.pairs.Lack.{Lack}
use Rattle.graph_updates.specs.declared.pairs.Lack.TheVariants as lack
use Rattle.graph_updates.specs.declared.edge_adding.AddTurn.{AddTurn}
use Rattle.graph_updates.specs.declared.edge_adding.AddTurn.TheVariants as turn
use Rattle.graph_updates.specs.declared.edge_adding.EdgeAddTried.{EdgeAddTried}
use Rattle.graph_updates.specs.declared.edge_adding.EdgeAddTried.TheVariants as tried
use Rattle.graph_updates.specs.declared.edge_adding.EdgeAdding.{EdgeAdding}
use Rattle.graph_updates.specs.declared.edge_adding.EdgeAdding.TheVariants as adding

-- the edge was linked by this call, or replaced another, and this is what the graph gives
pub record IsEdgeAdded (a b weight : ℕ) (outcome : Outcome) (old new : HandValue) (m : TokenValue) : Type 0 where
  pub carries : CarriesOutBy true (AddEdge a b weight) (may_take old.spare) 0 old.token.view new.token.view
      m.view.front
  pub changes : is_change outcome ≡ true
  pub reply : plain outcome ≡ answer (graph_of carries.carries.past) (AddEdge a b weight)
  pub spare : new.spare ≡ None
  pub nodes : HasItsNodes new
  pub uses : new.uses ≡ old.uses

-- no node was free at the end, and the call would have taken one at a moment
pub record IsEdgeFull (a b weight : ℕ) (old new : HandValue) (at : List Event) : Type 0 where
  pub on : GoesOnBy true old new
  pub needs : HoldsBetween old.token.view.front new.token.view.front (NeedsNode (AddEdge a b weight)) at
  pub then : List Event
  pub empty : HoldsBetween old.token.view.front new.token.view.front (NoneFree old.token.view.sizes) then
  pub bare : new.spare ≡ None

-- a call's exchange on the edge of a pair was won, and both ends are unmarked at a later front
pub record IsConcluded (ends : Ends) (now : TokenValue) (m : TokenValue) : Type 0 where
  pub moment : m.view.front ≡ now.view.front
  pub from : vertex_marked now.view.front ends.from ≡ false
  pub to : vertex_marked now.view.front ends.to ≡ false

-- what the loads of both ends' links tell after an exchange
abbrev pub MatchConcluded : AddTurn → Outcome → Ends → TokenValue → TokenValue → Type 0
MatchConcluded (turn.Done o m) outcome ends old new = (o ≡ outcome) × IsConcluded ends old m.value
MatchConcluded (turn.Overtaken e m) outcome ends old new =
    (e ≡ ends) × ((m.value.view.front ≡ old.view.front)
    × ((vertex_marked new.view.front ends.from ≡ true) ⊎ (vertex_marked new.view.front ends.to ≡ true)))
MatchConcluded _ outcome ends old new = ⊥

-- the exchange was won on an edge between two lives, one of which is over
pub record IsEdgeOvertaken (a b weight : ℕ) (ends : Ends) (old new : HandValue) (at : List Event) : Type 0 where
  pub exchange : ExchangesOn (AddEdge a b weight) a b ends.from ends.to (may_take old.spare) 0 old.token.view
      new.token.view at
  pub marked : (vertex_marked new.token.view.front ends.from ≡ true)
      ⊎ (vertex_marked new.token.view.front ends.to ≡ true)
  pub spare : new.spare ≡ None
  pub nodes : HasItsNodes new
  pub uses : new.uses ≡ old.uses

-- no node was free at a moment, and both ends were unmarked when the call came to look for one
pub record IsBare (ends : Ends) (old new : HandValue) : Type 0 where
  pub on : GoesOnBy true old new
  pub from : vertex_marked old.token.view.front ends.from ≡ false
  pub to : vertex_marked old.token.view.front ends.to ≡ false
  pub then : List Event
  pub empty : HoldsBetween old.token.view.front new.token.view.front (NoneFree old.token.view.sizes) then
  pub bare : new.spare ≡ None

-- one of the ends is over
pub record IsOneOver (ends : Ends) (l : Lack) (old new : HandValue) : Type 0 where
  pub on : GoesOnBy true old new
  pub life : Life
  pub lack_is : l ≡ lack.Vertex life
  pub one : (life ≡ ends.from) ⊎ (life ≡ ends.to)
  pub marked : vertex_marked new.token.view.front life ≡ true

-- a stretch in an open pass, without raises
pub record IsUnraised (v w : View) : Type 0 where
  pub own : List Event
  pub stays : Every StaysInPass own
  pub makes : Makes v own w
  pub raised : of_kinds raises own ≡ 0

-- what placing an edge came to, where the pair's edge is missing or has another weight: done with an answer, if that
-- was
-- the exchange to make; or no node was free, as the position or the edge shows which was handed in; or a foreign event
-- fell since a moment, and the node is the hand's spare one
abbrev pub MatchPlaced : AddTurn → (outcome : Outcome) → (full : AddTurn) → (ends : Ends) → (a b weight : ℕ)
    → (since : List Event) → HandValue → HandValue → Type 0
MatchPlaced (turn.Done o m) outcome full ends a b weight since old new =
    (o ≡ outcome) × IsEdgeAdded a b weight outcome old new m.value
MatchPlaced (turn.Overtaken e m) outcome full ends a b weight since old new =
    (e ≡ ends) × IsEdgeOvertaken a b weight ends old new m.value.view.front
MatchPlaced (turn.Lacks l) outcome full ends a b weight since old new = IsOneOver ends l old new
MatchPlaced (turn.FullAtGap q) outcome full ends a b weight since old new =
    (turn.FullAtGap q ≡ full) × IsBare ends old new
MatchPlaced (turn.FullAtEdge s) outcome full ends a b weight since old new =
    (turn.FullAtEdge s ≡ full) × IsBare ends old new
MatchPlaced turn.Lost outcome full ends a b weight since old new =
    GoesOnBy true old new × Fell 1 new.token.view.number since new.token.view.front
MatchPlaced _ outcome full ends a b weight since old new = ⊥

-- what marking an edge to an earlier life of its key came to: this call marked it, and right after that the source has
-- no edge of the key; or a foreign event fell since it was found
abbrev pub MatchStaleMarked : EdgeMarked → (source : Life) → (key : ℕ) → (since : List Event) → View → Type 0
MatchStaleMarked mark.Won source key since w = LacksEdge source key w.front
MatchStaleMarked _ source key since w = Fell 1 w.number since w.front

-- what one walk and what follows from it came to; where it came to an edge to an earlier life and the source had no
-- edge
-- of the key at the start, another caller linked that edge since
abbrev pub MatchAddTurn : AddTurn → (ends : Ends) → (a b weight : ℕ) → HandValue → HandValue → Type 0
MatchAddTurn (turn.Done o m) ends a b weight old new = IsEdgeAdded a b weight o old new m.value
MatchAddTurn (turn.Overtaken e m) ends a b weight old new =
    (e ≡ ends) × IsEdgeOvertaken a b weight ends old new m.value.view.front
MatchAddTurn (turn.Present s) ends a b weight old new =
    GoesOnBy true old new
    × HoldsBetween old.token.view.front new.token.view.front (HasPair a b weight) s.moment.value.view.front
MatchAddTurn (turn.Lacks l) ends a b weight old new = IsOneOver ends l old new
MatchAddTurn (turn.FullAtGap q) ends a b weight old new = IsEdgeFull a b weight old new q.moment
MatchAddTurn (turn.FullAtEdge s) ends a b weight old new =
    IsEdgeFull a b weight old new s.moment.value.view.front
MatchAddTurn (turn.Stale s) ends a b weight old new =
    GoesOnBy true old new
    × (MatchStaleMarked s ends.from b old.token.view.front new.token.view
    × (LacksEdge ends.from b old.token.view.front
    → Fell 1 new.token.view.number old.token.view.front new.token.view.front))
MatchAddTurn turn.Lost ends a b weight old new =
    GoesOnBy true old new × Fell 1 new.token.view.number old.token.view.front new.token.view.front

-- what the walks of one try came to: the same, but that a try that ends at an edge to be marked is lost
abbrev pub MatchAddTurns : AddTurn → (ends : Ends) → (a b weight : ℕ) → HandValue → HandValue → Type 0
MatchAddTurns (turn.Stale s) ends a b weight old new = MatchAddTurn turn.Lost ends a b weight old new
MatchAddTurns t ends a b weight old new = MatchAddTurn t ends a b weight old new

-- the end of a try, by what its walks came to
abbrev pub tried_of : AddTurn → EdgeAddTried
tried_of (turn.Done o m) = tried.Done o m
tried_of (turn.Overtaken ends m) = tried.Overtaken ends m
tried_of (turn.Present s) = tried.Present s
tried_of (turn.Lacks l) = tried.Lacks l
tried_of (turn.FullAtGap q) = tried.FullAtGap q
tried_of (turn.FullAtEdge s) = tried.FullAtEdge s
tried_of (turn.Stale m) = tried.Lost
tried_of turn.Lost = tried.Lost

-- what one try came to
abbrev pub MatchEdgeAddTried : EdgeAddTried → (a b weight lost tries : ℕ) → HandValue → HandValue → Type 0
MatchEdgeAddTried (tried.Done outcome m) a b weight lost tries old new = IsEdgeAdded a b weight outcome old new m.value
MatchEdgeAddTried (tried.Overtaken ends m) a b weight lost tries old new =
    IsOvertakenBy (AddEdge a b weight) a b (may_take old.spare) ends old new m.value.view.front
MatchEdgeAddTried (tried.Present s) a b weight lost tries old new =
    GoesOnBy true old new
    × HoldsBetween old.token.view.front new.token.view.front (HasPair a b weight) s.moment.value.view.front
MatchEdgeAddTried (tried.Lacks l) a b weight lost tries old new =
    GoesOnBy true old new × (MatchLack l a b old.token.view new.token.view × (lack_outcome l ≡ NoVertex))
MatchEdgeAddTried (tried.FullAtGap q) a b weight lost tries old new = IsEdgeFull a b weight old new q.moment
MatchEdgeAddTried (tried.FullAtEdge s) a b weight lost tries old new =
    IsEdgeFull a b weight old new s.moment.value.view.front
MatchEdgeAddTried tried.Lost a b weight lost tries old new = GoesOnBy true old new × (lost < tries)
MatchEdgeAddTried tried.Again a b weight lost tries old new = GoesOnBy true old new × (lost ≡ tries)

-- what all tries came to
abbrev pub MatchEdgeAdding : EdgeAdding → (a b weight tries : ℕ) → HandValue → HandValue → Type 0
MatchEdgeAdding (adding.Done outcome m) a b weight tries old new = IsEdgeAdded a b weight outcome old new m.value
MatchEdgeAdding (adding.Overtaken ends m) a b weight tries old new =
    IsOvertakenBy (AddEdge a b weight) a b (may_take old.spare) ends old new m.value.view.front
MatchEdgeAdding (adding.Present s) a b weight tries old new =
    GoesOnBy true old new
    × HoldsBetween old.token.view.front new.token.view.front (HasPair a b weight) s.moment.value.view.front
MatchEdgeAdding (adding.Lacks l) a b weight tries old new =
    GoesOnBy true old new × (MatchLack l a b old.token.view new.token.view × (lack_outcome l ≡ NoVertex))
MatchEdgeAdding (adding.FullAtGap q) a b weight tries old new = IsEdgeFull a b weight old new q.moment
MatchEdgeAdding (adding.FullAtEdge s) a b weight tries old new =
    IsEdgeFull a b weight old new s.moment.value.view.front
MatchEdgeAdding adding.Again a b weight tries old new =
    GoesOnBy true old new × Fell tries new.token.view.number old.token.view.front new.token.view.front
