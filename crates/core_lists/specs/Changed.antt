-- Words that changed between two fronts without an event of a caller.
use Rattle.std.specs.Prelude.{◌≡◌, ◌≢◌, ℕ, ◌<◌, ◌≤◌, true, List, Some, length, slice_get}
use Rattle.core_journal.specs.declared.event.Event.{Event}
use Rattle.core_journal.specs.Event.{counted}

-- behind the front, a caller made no event at this place
pub record HasNoneAt (front journal : List Event) (caller place : ℕ) : Type 0 where
  pub none : (p : ℕ) (e : Event) → length front ≤ p → slice_get journal p ≡ Some e → e.caller ≡ caller → e.place ≢ place

-- behind the front, another caller made an event of a counted kind at this place
pub record IsChangedByAnother (front journal : List Event) (caller place : ℕ) : Type 0 where
  pub number : ℕ
  pub event : Event
  pub since : length front ≤ number
  pub until : number < length journal
  pub at : slice_get journal number ≡ Some event
  pub here : event.place ≡ place
  pub counts : counted event.kind ≡ true
  pub other : event.caller ≢ caller
