-- A call wins its exchange on an edge between two vertex lives: what that does to the graph, and when the call is
-- overtaken.
use Rattle.std.specs.Prelude.{◌≡◌, ◌⊎◌, ℕ, true, false, List, [], ◌∷◌, ◌++◌, None, Some}
use Rattle.graph_kinds.specs.declared.call.Call.{Call}
use Rattle.graph_kinds.specs.declared.call.Call.TheVariants.{AddEdge, RemoveEdge}
use Rattle.packed_link.specs.declared.link.Life.{Life}
use Rattle.core_journal.specs.declared.event.Event.{Event}
use Rattle.core_journal.specs.Event.{moves, pops, raises}
use Rattle.core_journal.specs.GraphOf.{both, call_of, edge_of, graph_of, present_key}
use Rattle.core_journal.specs.Life.{vertex_marked}
use Rattle.core_rule.specs.declared.view.View.{View}
use Rattle.core_stretches.specs.Makes.{Makes}
use Rattle.core_stretches.specs.Moments.{Carries, Has, HoldsBetween}
use Rattle.graph_updates.specs.Hands.{HandValue, HasItsNodes}
use Rattle.graph_updates.specs.Parts.{LeavesGraph}
use Rattle.graph_updates.specs.declared.pairs.Ends.{Ends}

-- the call adds or removes an edge between two keys
abbrev pub IsCallOn : Call → ℕ → ℕ → Type 0
IsCallOn (AddEdge a b weight) from to = (a ≡ from) × (b ≡ to)
IsCallOn (RemoveEdge a b) from to = (a ≡ from) × (b ≡ to)
IsCallOn _ from to = ⊥

-- the token's own event, the last of the front, is one of the call on an edge between two lives: if both are present
-- right before it, it carries the call out, and if one isn't, it leaves the graph as it is
pub record IsOnPair (call : Call) (a b : ℕ) (source target : Life) (e : Event) (w : View) : Type 0 where
  pub past : List Event
  pub front : w.front ≡ past ++ e ∷ []
  pub by : e.caller ≡ w.number
  pub link : Event
  pub edge : edge_of past e ≡ Some link
  pub source_is : link.source ≡ source
  pub target_is : link.target ≡ target
  pub call_is : call_of past e ≡ Some call
  pub present : present_key past source ≡ Some a → present_key past target ≡ Some b → Carries call e w
  pub missing : both (present_key past source) (present_key past target) ≡ None → graph_of w.front ≡ graph_of past

-- a stretch of a call with one such event, at the end of a front; all others leave the graph
pub record ExchangesOn (call : Call) (a b : ℕ) (source target : Life) (taken moved : ℕ) (v w : View) (at : List Event)
    : Type 0 where
  pub before : View
  pub done : View
  pub event : Event
  pub first : LeavesGraph true taken 0 v before
  pub makes : Makes before (event ∷ []) done
  pub unlike : (pops event.kind ≡ false) × ((moves event.kind ≡ false) × (raises event.kind ≡ false))
  pub on : IsOnPair call a b source target event done
  pub at_is : at ≡ done.front
  pub last : LeavesGraph true 0 moved done w

-- both ends were present, each at a moment before the exchange, and one of them is marked at the end
pub record IsOvertakenOn (call : Call) (a b : ℕ) (ends : Ends) (taken moved : ℕ) (v w : View) (at : List Event)
    : Type 0 where
  pub exchange : ExchangesOn call a b ends.from ends.to taken moved v w at
  pub from_then : List Event
  pub from_there : HoldsBetween v.front exchange.before.front (Has a ends.from) from_then
  pub to_then : List Event
  pub to_there : HoldsBetween v.front exchange.before.front (Has b ends.to) to_then
  pub marked : (vertex_marked w.front ends.from ≡ true) ⊎ (vertex_marked w.front ends.to ≡ true)

-- the same of a hand, which has its nodes
pub record IsOvertakenBy (call : Call) (a b taken : ℕ) (ends : Ends) (old new : HandValue) (at : List Event) : Type 0
  where
    pub on : IsOvertakenOn call a b ends taken 0 old.token.view new.token.view at
    pub nodes : HasItsNodes new
    pub uses : new.uses ≡ old.uses
