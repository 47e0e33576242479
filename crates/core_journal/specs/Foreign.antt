-- Foreign events: what others did, in the length of a call, to words that the call may want.
use Rattle.std.specs.Prelude.{◌≡◌, ◌≢◌, ℕ, ◌<◌, ◌≤◌, Bool, true, not, ◌&&◌, ◌==◌, List, length, filter, take, drop}
use Rattle.std.specs.Prelude.{Some, slice_get}
use Rattle.core_journal.specs.declared.event.Event.{Event}
use Rattle.core_journal.specs.Event.{counted}

-- whether an event is of a counted kind and another caller's
abbrev pub foreign_to : ℕ → Event → Bool
foreign_to caller e = counted e.kind && not (e.caller == caller)

-- how many events of counted kinds other callers made from a number to before another
abbrev pub foreign : List Event → ℕ → ℕ → ℕ → ℕ
foreign journal caller start end = length (filter (foreign_to caller) (drop start (take end journal)))

-- an event of a counted kind by another caller stands from a number on and before another
pub record IsForeign (journal : List Event) (caller start end : ℕ) : Type 0 where
  pub number : ℕ
  pub event : Event
  pub since : start ≤ number
  pub until : number < end
  pub at : slice_get journal number ≡ Some event
  pub counts : counted event.kind ≡ true
  pub other : event.caller ≢ caller
