-- What a token knows on a worked journal, and a step of it that makes an event of that journal.
use Rattle.std.specs.Prelude.{◌≡◌, ℕ, true, false, List, [], Some, slice_get, take}
use Rattle.core_journal.specs.declared.event.Event.{Event}
use Rattle.core_journal.specs.Machine.{word_at}
use Rattle.core_journal.specs.TwoCallers.{callers_journal}
use Rattle.core_journal.specs.Worked.{small}
use Rattle.core_worked.specs.Beside.{beside_others}
use Rattle.core_rule.specs.Owes.{Reaches}
use Rattle.core_worked.specs.Replacing.{replacing_journal}
use Rattle.core_worked.specs.TwoLives.{two_lives}
use Rattle.core_rule.specs.declared.view.View.{View}

-- the view of a token with this caller's number whose front is the first n events, and which made no event behind them
abbrev pub view_of : List Event → ℕ → ℕ → View
view_of journal caller n =
    record {
      sizes = small;
      front = take n journal;
      met = [];
      book = [];
      numbered = true;
      number = caller;
      last = n;
      others = [];
      draws = false;
      drawn = 2;
    }

-- the same of the worked journal with all kinds of events
abbrev pub view_at : ℕ → ℕ → View
view_at caller n = view_of two_lives caller n

-- the same of the worked journal of two callers at once
abbrev pub view_among : ℕ → ℕ → View
view_among caller n = view_of callers_journal caller n

-- the same of the worked journal with links in front of others and behind others
abbrev pub view_beside : ℕ → ℕ → View
view_beside caller n = view_of beside_others caller n

-- the same of the worked journal in which edges are replaced
abbrev pub view_replacing : ℕ → ℕ → View
view_replacing caller n = view_of replacing_journal caller n

-- a token's step makes event n of a journal: the token may meet the events before it, the step finds this word at its
-- place, and its event is the next one
pub record MakesNext (journal : List Event) (v : View) (n found : ℕ) (e : Event) : Type 0 where
  pub reaches : Reaches v (take n journal)
  pub finds : word_at v.sizes (take n journal) e.place ≡ found
  pub makes : slice_get journal n ≡ Some e
