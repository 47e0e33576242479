-- What contracts see of a shared graph and of its callers.
use Rattle.std.specs.Prelude.{◌≡◌, ◌⊎◌, ℕ, ◌-◌, ◌^◌, ◌<◌, ◌≤◌, List, [], ◌∷◌, length, map}
use Rattle.graph_kinds.specs.History.{Every, IsLegal}
use Rattle.graph_kinds.specs.declared.answer.Answer.{Answer}
use Rattle.graph_kinds.specs.declared.outcome.Outcome.{Outcome}
use Rattle.core_journal.specs.declared.book.Book.{Book}
use Rattle.core_journal.specs.declared.event.Event.{Event}
use Rattle.core_journal.specs.GraphOf.{graph_of, IsRegular}
use Rattle.core_journal.specs.History.{history, IsClosed}
use Rattle.core_journal.specs.Prefix.{IsPrefix}
use Rattle.core_journal.specs.Right.{CallersApart, IsBookOf}
use Rattle.core_kept.specs.Kept.{IsQuiet}
use Rattle.core_stretches.specs.Holdings.{HasNoPass}
use Rattle.graph_table.specs.Tokens.{TableValue}
use Rattle.graph_updates.specs.Hands.{HandValue, IsHandOf, IsInOrder, book_of}

-- a caller: its hand, and the keys and level ends of its last answer
pub record CallerValue : Type 0 where
  pub hand : HandValue
  pub keys : List ℕ
  pub ends : List ℕ

-- the table that a hand is of
abbrev pub home_of : HandValue → TableValue
home_of h = record { table = h.token.table; sizes = h.token.view.sizes }

-- a hand between two calls: it's one of its table, has no open pass, and is in order
pub record IsBetweenCalls (h : HandValue) : Type 0 where
  pub hand : IsHandOf (home_of h) h
  pub closed : HasNoPass h.token.view
  pub order : IsInOrder h

-- a caller is one of this graph
abbrev pub IsCallerOf : TableValue → CallerValue → Type 0
IsCallerOf g c = home_of c.hand ≡ g

-- what a caller has seen
abbrev pub front_of : CallerValue → List Event
front_of c = c.hand.token.view.front

-- a caller's answer: the outcome of the call, with the keys and level ends that the caller has kept
abbrev pub answer_of : Outcome → CallerValue → Answer
answer_of outcome c = record { outcome = outcome; keys = c.keys; ends = c.ends }

-- how much of the journal a caller has seen
abbrev pub seen_by : CallerValue → ℕ
seen_by c = length (front_of c)

-- how many uses a caller has left
abbrev pub uses_left : CallerValue → ℕ
uses_left c = 2 ^ 32 - c.hand.uses

-- a caller has looked at the table and made no event: its front has grown, and all that it holds is as it was
pub record LooksOn (old new : CallerValue) : Type 0 where
  pub grows : IsPrefix (front_of old) (front_of new)
  pub number : new.hand.token.view.number ≡ old.hand.token.view.number
  pub last : new.hand.token.view.last ≡ old.hand.token.view.last
  pub book : new.hand.token.view.book ≡ old.hand.token.view.book
  pub limbo : new.hand.limbo ≡ old.hand.limbo
  pub spare : new.hand.spare ≡ old.hand.spare
  pub uses : new.hand.uses ≡ old.hand.uses
  pub keys : new.keys ≡ old.keys
  pub ends : new.ends ≡ old.ends

-- a new caller of a graph: it has this number and has had no use, and its book is empty
pub record IsHired (g : TableValue) (number : ℕ) (c : CallerValue) : Type 0 where
  pub caller : IsCallerOf g c
  pub number_is : c.hand.token.view.number ≡ number
  pub book : c.hand.token.view.book ≡ []
  pub uses : c.hand.uses ≡ 0

-- the book of a caller, with its number
abbrev pub book_in : CallerValue → Book
book_in c = book_of c.hand.token.view

-- one of the callers has this number
abbrev pub HasCaller : List CallerValue → ℕ → Type 0
HasCaller [] number = ⊥
HasCaller (c ∷ cs) number = (c.hand.token.view.number ≡ number) ⊎ HasCaller cs number

-- these are all callers of a graph, each once
pub record HoldsEach (g : TableValue) (cs : List CallerValue) : Type 0 where
  pub home : Every (IsCallerOf g) cs
  pub each : (number : ℕ) → number < g.sizes.callers → HasCaller cs number
  pub apart : CallersApart (map book_in cs)

-- one caller's front is this journal
abbrev pub IsFrontOfOne : List CallerValue → List Event → Type 0
IsFrontOfOne [] journal = ⊥
IsFrontOfOne (c ∷ cs) journal = (front_of c ≡ journal) ⊎ IsFrontOfOne cs journal

-- a journal has all that a caller did: its last event, as its token knows it, and no event of it behind that
pub record HasAllOf (journal : List Event) (c : CallerValue) : Type 0 where
  pub last : c.hand.token.view.last ≤ length journal
  pub quiet : IsQuiet journal c.hand.token.view.number c.hand.token.view.last

-- what is known when all callers have ended: the journal is the longest of their fronts, has all that each did, and is
-- regular; their books are true of it, so that each entry is right and framed and each event that changes the graph has
-- just one own entry; no other caller's event stands in it; and the history of it and all books is legal and ends in
-- its graph
pub record IsEnded (g : TableValue) (cs : List CallerValue) (journal : List Event) : Type 0 where
  pub longest : IsFrontOfOne cs journal
  pub seen : Every (λ (c : CallerValue). IsPrefix (front_of c) journal) cs
  pub whole : Every (HasAllOf journal) cs
  pub regular : IsRegular journal
  pub books : Every (IsBookOf g.sizes journal) (map book_in cs)
  pub closed : IsClosed journal (map book_in cs)
  pub legal : IsLegal (history journal (map book_in cs)) (graph_of journal)
