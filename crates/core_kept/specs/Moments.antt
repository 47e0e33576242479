-- The epoch, the passes and the ends of lives after a journal, in the form of core_epoch.
use Rattle.std.specs.Prelude.{ℕ, Bool, true, false, List}
use Rattle.packed_link.specs.Layout.{Sizes, announce_at}
use Rattle.core_epoch.specs.Clock.{Clock}
use Rattle.core_epoch.specs.Ends.{Ends}
use Rattle.core_journal.specs.declared.event.Event.{Event}
use Rattle.core_journal.specs.Machine.{word_at}
use Rattle.core_journal.specs.State.{Mode, Spent, State, state}

-- whether a node is spent
abbrev pub is_spent : Mode → Bool
is_spent Spent = true
is_spent _ = false

-- the epoch and the passes of a state, with the announcements among the words
abbrev pub clock_by : Sizes → State → (ℕ → ℕ) → Clock
clock_by sizes s w = record {
  count = s.count;
  epoch = s.epoch;
  is_open = λ i. (s.pass i).is_open;
  birth = λ i. (s.pass i).birth;
  since = λ i. (s.pass i).since;
  word = λ i. w (announce_at sizes i);
}

-- the ends of lives in a state
abbrev pub ends_by : State → Ends
ends_by s = record {
  ended = λ x. (s.node x).ended;
  epoch = λ x. (s.node x).epoch;
  is_spent = λ x. is_spent (s.node x).mode;
}

-- the clock after a journal
abbrev pub clock_in : Sizes → List Event → Clock
clock_in sizes journal = clock_by sizes (state sizes journal) (word_at sizes journal)

-- the ends of lives after a journal
abbrev pub ends_in : Sizes → List Event → Ends
ends_in sizes journal = ends_by (state sizes journal)
