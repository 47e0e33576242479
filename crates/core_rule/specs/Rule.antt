-- The rule of the one table: its words are those of a kept journal, and each token's view fits that journal.
use Rattle.std.specs.Prelude.{◌≡◌, ◌≢◌, ℕ, ◌<◌, ◌≤◌, ◌⊎◌, true, false, cond, List, [], ◌∷◌, ◌++◌, length, max}
use mathlib.Core.Option.{some}
use lib.ListN.{get_elem?}
use Rattle.atomic_table.specs.Table.{State as TableState}
use Rattle.graph_kinds.specs.History.{Every}
use Rattle.packed_link.specs.Layout.{Sizes}
use Rattle.core_journal.specs.declared.event.Event.{Event}
use Rattle.core_journal.specs.Prefix.{IsPrefix}
use Rattle.core_journal.specs.Machine.{machine}
use Rattle.core_journal.specs.State.{state}
use Rattle.core_kept.specs.Kept.{IsKept, IsQuiet}
use Rattle.core_rule.specs.declared.view.View.{View}

-- the view of the first token: it has seen nothing, and may draw numbers
abbrev pub first_view : Sizes → View
first_view sizes =
    record {
      sizes = sizes;
      front = [];
      met = [];
      book = [];
      numbered = false;
      number = 0;
      last = 0;
      others = [];
      draws = true;
      drawn = 0;
    }

-- what a token that was joined to another is left with
abbrev pub spent_view : View
spent_view =
    record {
      sizes = record { callers = 0; nodes = 0; buckets = 0 };
      front = [];
      met = [];
      book = [];
      numbered = false;
      number = 0;
      last = 0;
      others = [];
      draws = false;
      drawn = 0;
    }

-- a number is this seat's, and was drawn, and no event of it stands at or after a length that the seat has seen
pub record IsAccount (sizes : Sizes) (journal : List Event) (owner : ℕ → ℕ) (seat reach : ℕ)
    (account : ℕ × ℕ) : Type 0 where
  pub own : owner account.0 ≡ seat
  pub drawn : account.0 < (state sizes journal).drawn
  pub old : account.1 ≤ reach
  pub quiet : IsQuiet journal account.0 account.1

-- how much of the journal a view has seen
abbrev pub reach : View → ℕ
reach v = max (length v.front) (length v.met)

-- the right to draw is held by one seat, which knows how many numbers are drawn
pub record IsDrawer (sizes : Sizes) (journal : List Event) (drawer seat : ℕ) (v : View) : Type 0 where
  pub one : seat ≡ drawer
  pub drawn : v.drawn ≡ (state sizes journal).drawn

-- a view fits a journal: what it has seen begins the journal, and what it says of the right to draw, of its own number
-- and of the numbers that joined it is so. The drawer is the one seat that may draw, and the owner of a number the one
-- seat that answers for it
pub record Fits (sizes : Sizes) (journal : List Event) (drawer : ℕ) (owner : ℕ → ℕ) (seat : ℕ) (v : View) : Type 0 where
  pub front : IsPrefix v.front journal
  pub met : IsPrefix v.met journal
  pub draws : v.draws ≡ true → IsDrawer sizes journal drawer seat v
  pub numbered : v.numbered ≡ true → IsAccount sizes journal owner seat (length v.front) (v.number, v.last)
  pub others : Every (IsAccount sizes journal owner seat (reach v)) v.others
  pub apart : v.numbered ≡ true → Every (λ (a : ℕ × ℕ). a.0 ≢ v.number) v.others

-- a list of accounts has one of a number
abbrev pub HasAccount : List (ℕ × ℕ) → ℕ → Type 0
HasAccount [] number = ⊥
HasAccount (a ∷ xs) number = (a.0 ≡ number) ⊎ HasAccount xs number

-- the number of a view, with its last event
abbrev pub own_account : View → List (ℕ × ℕ)
own_account v = cond v.numbered ((v.number, v.last) ∷ []) []

-- a token has the right to draw, and each number that was drawn is its own or that of a token that was joined to it
pub record AnswersForAll (v : View) : Type 0 where
  pub draws : v.draws ≡ true
  pub each : (number : ℕ) → number < v.drawn → HasAccount (own_account v ++ v.others) number

-- the accounts of a view: its own, and those of the tokens that were joined to it
abbrev pub accounts : View → List (ℕ × ℕ)
accounts v = own_account v ++ v.others

-- each number below that of callers is a token's own or that of a token that was joined to it, whoever may draw
pub record AnswersForCallers (v : View) : Type 0 where
  pub each : (number : ℕ) → number < v.sizes.callers → HasAccount (accounts v) number

-- the rule of the one table
pub record Ruled (sizes : Sizes) (s : TableState (Unit {0}) View) : Type 0 where
  pub journal : List Event
  pub drawer : ℕ
  pub owner : ℕ → ℕ
  pub words : s.words ≡ machine sizes journal
  pub kept : IsKept sizes journal
  pub seats : (seat : ℕ) (v : View) → get_elem? s.views seat ≡ some v → Fits sizes journal drawer owner seat v
