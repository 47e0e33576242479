-- What the end of a call rests on, by the way in which it's answered.
use Rattle.std.specs.Prelude.{◌≡◌, ℕ, ◌+◌, ◌^◌, ◌<◌, ◌≤◌, true, false, List, length, take}
use Rattle.graph_kinds.specs.Graph.{has}
use Rattle.graph_kinds.specs.Answer.{alters, answer, is_change, needs_node, plain}
use Rattle.graph_kinds.specs.declared.call.Call.{Call}
use Rattle.graph_kinds.specs.declared.outcome.Outcome.{Outcome}
use Rattle.packed_link.specs.declared.link.Life.{Life}
use Rattle.core_journal.specs.declared.event.Event.{Event}
use Rattle.core_journal.specs.GraphOf.{graph_of}
use Rattle.core_journal.specs.Life.{vertex_marked}
use Rattle.core_journal.specs.Marks.{IsCutOf}
use Rattle.core_journal.specs.Right.{NoneFree}
use Rattle.core_rule.specs.declared.view.View.{View}
use Rattle.core_stretches.specs.Holdings.{HasNoPass}
use Rattle.core_stretches.specs.Moments.{Has, HoldsBetween}
use Rattle.graph_updates.specs.Exchanges.{IsCallOn, IsOvertakenOn}
use Rattle.graph_updates.specs.Hands.{HandValue, HasItsNodes}
use Rattle.graph_updates.specs.Pairs.{LacksBy, MatchLack, lack_outcome}
use Rattle.graph_updates.specs.Parts.{CarriesOutBy, Fell, LeavesGraph, RaisesDone}
use Rattle.graph_updates.specs.declared.pairs.Ends.{Ends}
use Rattle.graph_updates.specs.declared.pairs.Lack.{Lack}

-- a call that began at one hand has come to its end but for the reply: its pass is closed, the hand has its nodes, it
-- gave up at most one edge for which it raised, and one use was counted
pub record HasEnded (old now : HandValue) : Type 0 where
  pub left : old.uses < 2 ^ 32
  pub closed : HasNoPass now.token.view
  pub nodes : HasItsNodes now
  pub raised : RaisesDone 1 old.token.view now.token.view
  pub uses : now.uses ≡ old.uses + 1

-- the graph gives this answer to the call, and the call leaves it as it is
pub record GivesAnswer (call : Call) (outcome : Outcome) (journal : List Event) : Type 0 where
  pub reply : plain outcome ≡ answer (graph_of journal) call
  pub stays : alters (graph_of journal) call ≡ false

-- the call would take a node
pub record NeedsNode (call : Call) (journal : List Event) : Type 0 where
  pub needs : needs_node (graph_of journal) call ≡ true

-- a call that left the graph is answered as the graph gives it at a moment of the call
pub record IsDueAt (call : Call) (outcome : Outcome) (v w : View) (at : List Event) : Type 0 where
  pub stretch : LeavesGraph true 1 3 v w
  pub gives : HoldsBetween v.front w.front (GivesAnswer call outcome) at

-- a call that changed the graph is answered as the graph gives it right before its own event
pub record IsDueByChange (call : Call) (outcome : Outcome) (v w : View) (at : List Event) : Type 0 where
  pub stretch : CarriesOutBy true call 1 3 v w at
  pub changes : is_change outcome ≡ true
  pub reply : plain outcome ≡ answer (graph_of stretch.carries.past) call

-- a call that left the graph would take a node at a moment, and no node was free at another one
pub record IsDueForFull (call : Call) (v w : View) (at : List Event) : Type 0 where
  pub stretch : LeavesGraph true 1 3 v w
  pub needs : HoldsBetween v.front w.front (NeedsNode call) at
  pub then : List Event
  pub empty : HoldsBetween v.front w.front (NoneFree v.sizes) then

-- a call that left the graph lost as many tries as it was given
pub record IsDueAgain (tries : ℕ) (v w : View) : Type 0 where
  pub stretch : LeavesGraph true 1 3 v w
  pub fell : Fell tries w.number v.front w.front

-- a call that left the graph found a vertex present that's marked at its end, and wherever no vertex has its key the
-- graph gives this answer
pub record IsDueAtMark (call : Call) (outcome : Outcome) (v w : View) (x : Life) : Type 0 where
  pub stretch : LeavesGraph true 1 3 v w
  pub key : ℕ
  pub at : List Event
  pub there : HoldsBetween v.front w.front (Has key x) at
  pub marked : vertex_marked w.front x ≡ true
  pub gives : (journal : List Event) → has (graph_of journal) key ≡ false → GivesAnswer call outcome journal

-- a call that left the graph found an edge marked by an event since its start, right after which the graph gives this
-- answer
pub record IsDueAtEdgeMark (call : Call) (outcome : Outcome) (v w : View) (x : Life) : Type 0 where
  pub stretch : LeavesGraph true 1 3 v w
  pub number : ℕ
  pub since : length v.front ≤ number
  pub cut : IsCutOf w.front x number
  pub gives : GivesAnswer call outcome (take (number + 1) w.front)

-- a call on a pair left the graph, and the pair lacked something at a place of the call, where the graph gives what is
-- answered then
pub record IsDueLacking (call : Call) (v w : View) (lack : Lack) : Type 0 where
  pub stretch : LeavesGraph true 1 3 v w
  pub from : ℕ
  pub to : ℕ
  pub lacks : MatchLack lack from to v w
  pub gives : (journal : List Event) → LacksBy lack from to journal → GivesAnswer call (lack_outcome lack) journal

-- a call on an edge won its exchange, and one of its ends is over
pub record IsDueOvertaken (call : Call) (v w : View) (at : List Event) (ends : Ends) : Type 0 where
  pub from : ℕ
  pub to : ℕ
  pub call_is : IsCallOn call from to
  pub on : IsOvertakenOn call from to ends 1 3 v w at
