-- The free list after a journal, in the form of core_epoch: nodes that lead to one another through their link words,
-- from the word of the free list on.
use Rattle.std.specs.Prelude.{ℕ, Bool, true, false, List}
use Rattle.packed_link.specs.Layout.{Sizes, free_at, link_at}
use Rattle.core_epoch.specs.Free.{Pool}
use Rattle.core_journal.specs.declared.event.Event.{Event}
use Rattle.core_journal.specs.Machine.{word_at}
use Rattle.core_journal.specs.State.{Mode, Free, State, state}

-- whether a node is free
abbrev pub is_free : Mode → Bool
is_free Free = true
is_free _ = false

-- the free nodes of a state, with the words that lead through them
abbrev pub pool_by : Sizes → State → (ℕ → ℕ) → Pool
pool_by sizes s w = record {
  first = w (free_at sizes);
  link = λ x. w (link_at sizes x);
  is_free = λ x. is_free (s.node x).mode;
  free = s.free;
  changes = s.changes;
}

-- the same after a journal
abbrev pub pool_in : Sizes → List Event → Pool
pool_in sizes journal = pool_by sizes (state sizes journal) (word_at sizes journal)
