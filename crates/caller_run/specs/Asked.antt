-- What a port has done when it was asked calls, and what belongs to one caller among all rows.
use Rattle.std.specs.Prelude.{◌≡◌, ◌≢◌, ℕ, ◌+◌, ◌≤◌, ◌==◌, Bool, true, false, List, ◌++◌, All, length, map, take}
use Rattle.std.specs.Prelude.{drop, filter, not}
use Rattle.std.specs.List.{zip}
use Rattle.graph_kinds.specs.declared.answer.Answer.{Answer}
use Rattle.graph_kinds.specs.declared.call.Call.{Call}
use Rattle.graph_kinds.specs.declared.call.Row.{Row}
use Rattle.graph_kinds.specs.declared.entry.Entry.{Entry}
use Rattle.graph_kinds.specs.declared.outcome.Outcome.{Outcome}
use Rattle.graph_kinds.specs.declared.outcome.Outcome.TheVariants.{Worn}
use Rattle.graph_kinds.specs.Answer.{plain}

-- the rows of one caller, in order
abbrev pub rows_of_caller : ℕ → List Row → List Row
rows_of_caller caller rows = filter (λ (r : Row). r.caller == caller) rows

-- the answers to the rows of one caller, in order, among the answers to all rows
abbrev pub answers_to_caller : ℕ → List Row → List Answer → List Answer
answers_to_caller caller rows replies =
    map (λ (p : Row × Answer). p.1) (filter (λ (p : Row × Answer). p.0.caller == caller) (zip rows replies))

-- whether an outcome is Worn
abbrev pub is_worn : Outcome → Bool
is_worn Worn = true
is_worn o = false

-- the calls that aren't answered Worn, each with its answer, in order
abbrev pub unworn : List Call → List Answer → List (Call × Answer)
unworn calls replies = filter (λ (p : Call × Answer). not (is_worn p.1.outcome)) (zip calls replies)

-- the call of an entry, with its answer
abbrev pub asked_in : Entry → Call × Answer
asked_in e = (e.call, e.answer)

module _ {X : Type 0} (book : X → List Entry) (left front : X → ℕ) where
  -- a port has answered some of these calls, from the first on, with so many tries each: its book has gained an entry
  -- for each, one use is gone for each, and none starts before its old front or ends beyond its new one
  pub record HasAnsweredSome (old new : X) (tries : ℕ) (calls : List Call) : Type 0 where
    pub gained : List Entry
    pub grown : book new ≡ book old ++ gained
    pub asked : map (λ (e : Entry). e.call) gained ≡ take (length gained) calls
    pub given : All (λ (e : Entry). e.tries ≡ tries) gained
    pub within : All (λ (e : Entry). (front old ≤ e.start) × (e.end ≤ front new)) gained
    pub used : left new + length gained ≡ left old
    pub later : front old ≤ front new

  -- a port has answered each of these calls, with these answers: the entries that its book has gained are those of the
  -- calls that aren't answered Worn; as many calls as it had uses left aren't, and each later one is, without keys
  pub record HasAnsweredAll (old new : X) (tries : ℕ) (calls : List Call) (replies : List Answer) : Type 0 where
    pub some : HasAnsweredSome old new tries calls
    pub one_each : length replies ≡ length calls
    pub entered : map asked_in some.gained ≡ unworn calls replies
    pub in_time : All (λ (r : Answer). r.outcome ≢ Worn) (take (left old) replies)
    pub worn : All (λ (r : Answer). r ≡ plain Worn) (drop (left old) replies)
