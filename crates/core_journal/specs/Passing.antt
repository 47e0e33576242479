-- Events that pass a test behind those before them: how many there are, and which is the first.
use Rattle.std.specs.Prelude.{◌≡◌, ℕ, ◌+◌, ◌<◌, ◌≤◌, ◌==◌, ◌&&◌, Bool, true, false, cond, List, [], ◌∷◌, ◌++◌, Some}
use Rattle.std.specs.Prelude.{take, slice_get}
use Rattle.core_journal.specs.declared.event.Event.{Event}
use Rattle.core_journal.specs.GraphOf.{changes}

-- how many of these events pass a test, each behind a past and those before it
abbrev pub passing_from : (List Event → Event → Bool) → List Event → List Event → ℕ
passing_from test past [] = 0
passing_from test past (e ∷ es) = cond (test past e) 1 0 + passing_from test (past ++ e ∷ []) es

-- how many events of a journal pass a test, each behind those before it
unfoldable pub passing : (List Event → Event → Bool) → List Event → ℕ
passing test journal = passing_from test [] journal

-- whether an event is this caller's, and changes the graph
abbrev pub is_own_change : ℕ → List Event → Event → Bool
is_own_change caller past e = (e.caller == caller) && changes past e

-- how many events of a caller changed the graph
abbrev pub changes_made : ℕ → List Event → ℕ
changes_made caller journal = passing (is_own_change caller) journal

-- the event of number m is the first one from a number on that passes a test
pub record IsFirst (test : List Event → Event → Bool) (journal : List Event) (start m : ℕ) : Type 0 where
  pub event : Event
  pub since : start ≤ m
  pub at : slice_get journal m ≡ Some event
  pub passes : test (take m journal) event ≡ true
  pub before : (k : ℕ) (e : Event) → start ≤ k → k < m → slice_get journal k ≡ Some e → test (take k journal) e ≡ false
