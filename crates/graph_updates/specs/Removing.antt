-- What removing a vertex tells.
use Rattle.std.specs.Prelude.{◌≡◌, ℕ, true, List, false}
use Rattle.graph_kinds.specs.declared.call.Call.TheVariants.{RemoveVertex}
use Rattle.packed_link.specs.declared.link.Life.{Life}
use Rattle.core_journal.specs.declared.event.Event.{Event}
use Rattle.core_journal.specs.Life.{vertex_marked}
use Rattle.core_stretches.specs.Moments.{Has, HoldsBetween}
use Rattle.graph_table.specs.Tokens.{TokenValue}
use Rattle.graph_updates.specs.Hands.{HandValue, HasItsNodes}
use Rattle.graph_updates.specs.Locating.{WasGone}
use Rattle.graph_updates.specs.Parts.{CarriesOutBy, Fell, GoesOnBy}
use Rattle.graph_updates.specs.declared.removing.Removing.{Removing}
use Rattle.graph_updates.specs.declared.removing.Removing.TheVariants as removing

-- the vertex of the key was marked by this call
pub record IsRemoved (key : ℕ) (old new : HandValue) (m : TokenValue) : Type 0 where
  pub carries : CarriesOutBy false (RemoveVertex key) 0 0 old.token.view new.token.view m.view.front
  pub spare : new.spare ≡ old.spare
  pub nodes : HasItsNodes new
  pub uses : new.uses ≡ old.uses

-- a vertex was present with the key at a moment, and is marked at the end, by another caller
pub record WasMarkedMeanwhile (key : ℕ) (old new : HandValue) (x : Life) : Type 0 where
  pub on : GoesOnBy false old new
  pub then : List Event
  pub there : HoldsBetween old.token.view.front new.token.view.front (Has key x) then
  pub marked : vertex_marked new.token.view.front x ≡ true

abbrev pub MatchRemoving : Removing → (key tries : ℕ) → HandValue → HandValue → Type 0
MatchRemoving (removing.Marked m) key tries old new = IsRemoved key old new m.value
MatchRemoving (removing.WasMarked x) key tries old new = WasMarkedMeanwhile key old new x
MatchRemoving (removing.Gone q) key tries old new = GoesOnBy false old new × WasGone key old.token.view new.token.view q
MatchRemoving removing.Again key tries old new =
    GoesOnBy false old new × Fell tries new.token.view.number old.token.view.front new.token.view.front
