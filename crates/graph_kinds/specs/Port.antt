-- What a caller's port keeps of a call that it answered.
use Rattle.std.specs.Prelude.{◌≡◌, ℕ, List, [], ◌∷◌, ◌++◌}
use Rattle.graph_kinds.specs.declared.call.Call.{Call}
use Rattle.graph_kinds.specs.declared.answer.Answer.{Answer}
use Rattle.graph_kinds.specs.declared.entry.Entry.{Entry}

-- a book has one entry more, at its end: this call with its tries and this answer, entered when the front had the
-- length `start` and answered when it had the length `end`
pub record GainsEntry (old new : List Entry) (call : Call) (tries : ℕ) (answer : Answer) (start end : ℕ) : Type 0 where
  pub entry : Entry
  pub added : new ≡ old ++ entry ∷ []
  pub asked : entry.call ≡ call
  pub given : entry.tries ≡ tries
  pub answered : entry.answer ≡ answer
  pub started : entry.start ≡ start
  pub ended : entry.end ≡ end
