-- What the calls on a hand answer: one record for all of them.
use Rattle.std.specs.Prelude.{◌≡◌, ◌≢◌, ℕ, ◌+◌, ◌^◌, ◌<◌, ◌≤◌, Bool, true, false, cond, [], ◌∷◌, ◌++◌}
use Rattle.std.specs.Prelude.{length}
use Rattle.graph_kinds.specs.Answer.{is_change, plain}
use Rattle.graph_kinds.specs.History.{IsLegal}
use Rattle.graph_kinds.specs.declared.answer.Answer.{Answer}
use Rattle.graph_kinds.specs.declared.call.Call.{Call}
use Rattle.graph_kinds.specs.declared.entry.Class.{Class}
use Rattle.graph_kinds.specs.declared.entry.Class.TheVariants.{Own}
use Rattle.graph_kinds.specs.declared.entry.Entry.{Entry}
use Rattle.graph_kinds.specs.declared.outcome.Outcome.TheVariants.{Overtaken, Worn}
use Rattle.core_journal.specs.Event.{moves, pops}
use Rattle.core_journal.specs.GraphOf.{graph_of}
use Rattle.core_journal.specs.History.{history}
use Rattle.core_journal.specs.Passing.{changes_made}
use Rattle.core_journal.specs.Prefix.{IsPrefix}
use Rattle.core_journal.specs.Right.{IsBookOf, Right}
use Rattle.core_kept.specs.Counts.{made}
use Rattle.core_rule.specs.declared.view.View.{View}
use Rattle.graph_updates.specs.Hands.{HandValue, book_of}
use Rattle.graph_updates.specs.Parts.{RaisesDone}

-- the counts of a caller's events rise by at most this much in a call: one node taken and three moves of the epoch; and
-- at most one edge is given up for which a counter was raised
pub record HasSpentAtMost (v w : View) : Type 0 where
  pub taken : made pops w.number w.front ≤ made pops v.number v.front + 1
  pub moved : made moves w.number w.front ≤ made moves v.number v.front + 3
  pub raised : RaisesDone 1 v w

-- whether a class is that of own entries
abbrev pub is_own : Class → Bool
is_own Own = true
is_own _ = false

-- a call was answered: the old front begins the new one; the book has one entry more, with this call, its tries and
-- this reply, which starts at the length of the old front, ends at that of the new one, and is right; the book is
-- true of the new front, so that it's framed and each own event that changes the graph has just one own entry; the
-- history of front and book is legal and ends in the graph of the front; the reply isn't Worn; the call changed the
-- graph once if its entry is an own one, and else not; and its entry is an own one exactly if its reply tells of a
-- change, but for a call that was overtaken, which may have changed the graph
pub record HasAnswered (call : Call) (tries : ℕ) (reply : Answer) (old new : HandValue) : Type 0 where
  pub grows : IsPrefix old.token.view.front new.token.view.front
  pub number : new.token.view.number ≡ old.token.view.number
  pub entry : Entry
  pub book : new.token.view.book ≡ old.token.view.book ++ entry ∷ []
  pub asked : entry.call ≡ call
  pub given : entry.tries ≡ tries
  pub answered : entry.answer ≡ reply
  pub start : entry.start ≡ length old.token.view.front
  pub end : entry.end ≡ length new.token.view.front
  pub right : Right new.token.view.sizes new.token.view.front new.token.view.number entry
  pub true_book : IsBookOf new.token.view.sizes new.token.view.front (book_of new.token.view)
  pub legal : IsLegal (history new.token.view.front (book_of new.token.view ∷ [])) (graph_of new.token.view.front)
  pub unworn : reply.outcome ≢ Worn
  pub changed : changes_made new.token.view.number new.token.view.front
      ≡ changes_made old.token.view.number old.token.view.front + cond (is_own entry.class) 1 0
  pub told : reply.outcome ≢ Overtaken → is_own entry.class ≡ is_change reply.outcome
  pub counts : HasSpentAtMost old.token.view new.token.view
  pub used : new.uses ≡ old.uses + 1

-- a hand that has had all its uses answers Worn and does nothing, and each other one answers the call
pub record Answers (call : Call) (tries : ℕ) (reply : Answer) (old new : HandValue) : Type 0 where
  pub worn : old.uses ≡ 2 ^ 32 → (reply ≡ plain Worn) × (new ≡ old)
  pub answered : old.uses < 2 ^ 32 → HasAnswered call tries reply old new
