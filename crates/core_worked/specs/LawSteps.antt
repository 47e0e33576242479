-- Steps of a token on the worked journal, to which the laws of views are applied, and a table whose last token answers
-- for all callers.
use Rattle.std.specs.Prelude.{ℕ, ◌+◌, true, [], ◌∷◌, length, take}
use Rattle.atomic_table.specs.Table.{State as TableState}
use Rattle.core_journal.specs.Machine.{machine}
use Rattle.core_journal.specs.Worked.{small}
use Rattle.core_rule.specs.Views.{moved_on}
use Rattle.core_rule.specs.declared.view.View.{View}
use Rattle.core_worked.specs.KnownSteps.{view_at}
use Rattle.core_worked.specs.TwoLives.{two_lives}

-- the view of caller 0 behind its step that makes event n
abbrev pub view_behind : ℕ → View
view_behind n = moved_on (view_at 0 n) (take (n + 1) two_lives) (n + 1)

-- a view with the right to draw
abbrev pub drawing_too : View → View
drawing_too v = record v { draws = true }

-- the view of caller 0 before event n with the right to draw
abbrev pub view_drawing : ℕ → View
view_drawing n = drawing_too (view_at 0 n)

-- the view of caller 0 before event 45, to which a token was joined whose front had 20 events
abbrev pub view_joined : View
view_joined = record (view_at 0 45) { met = take 20 two_lives }

-- the view of caller 0 behind all events, to which the token of caller 1 was joined: no one has the right to draw,
-- which a token took that was dropped
abbrev pub closing_view : View
closing_view =
    record (view_at 0 0) {
      front = two_lives;
      last = length two_lives;
      others = (1, length two_lives) ∷ [];
    }

-- the table with this token alone
abbrev pub closing_table : TableState (Unit {0}) View
closing_table = record { words = machine small two_lives; homes = []; views = closing_view ∷ [] }

-- the same view with the right to draw, whose token drew both numbers
abbrev pub last_view : View
last_view = drawing_too closing_view

-- the table with this token alone
abbrev pub last_table : TableState (Unit {0}) View
last_table = record { words = machine small two_lives; homes = []; views = last_view ∷ [] }
