-- Moments between two fronts and what may hold there, and the event with which a front ends.
use Rattle.std.specs.Prelude.{◌≡◌, ℕ, true, false, List, [], ◌∷◌, ◌++◌, Some}
use Rattle.graph_kinds.specs.Answer.{alters, after}
use Rattle.graph_kinds.specs.declared.call.Call.{Call}
use Rattle.packed_link.specs.declared.link.Life.{Life}
use Rattle.core_journal.specs.declared.event.Event.{Event}
use Rattle.core_journal.specs.GraphOf.{graph_of, present_key}
use Rattle.core_journal.specs.Life.{link_of, edge_marked}
use Rattle.core_journal.specs.Prefix.{IsPrefix}
use Rattle.core_rule.specs.declared.view.View.{View}

-- a moment between two fronts at which something holds
pub record HoldsBetween (old new : List Event) (P : List Event → Type 0) (at : List Event) : Type 0 where
  pub since : IsPrefix old at
  pub until : IsPrefix at new
  pub holds : P at

-- a vertex is present with a key
pub record Has (key : ℕ) (x : Life) (journal : List Event) : Type 0 where
  pub there : present_key journal x ≡ Some key

-- no vertex is present with a key
pub record Lacks (key : ℕ) (journal : List Event) : Type 0 where
  pub none : (x : Life) → present_key journal x ≡ Some key → ⊥

-- an event is the last of the view's front
pub record EndsBy (e : Event) (w : View) : Type 0 where
  pub past : List Event
  pub front : w.front ≡ past ++ e ∷ []

-- the last event of the view's front is its token's own, and carried out a call that alters the graph before it
pub record Carries (call : Call) (e : Event) (w : View) : Type 0 where
  pub past : List Event
  pub front : w.front ≡ past ++ e ∷ []
  pub by : e.caller ≡ w.number
  pub alters : alters (graph_of past) call ≡ true
  pub leads : graph_of w.front ≡ after (graph_of past) call

-- no edge of a source with a key is linked and unmarked
pub record LacksEdge (source : Life) (key : ℕ) (journal : List Event) : Type 0 where
  pub none : (x : Life) (link : Event) → link_of journal x ≡ Some link → edge_marked journal x ≡ false
      → link.source ≡ source → link.key ≡ key → ⊥
