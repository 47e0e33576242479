use Rattle.core_journal.proofs.Onward.{book_push}
use Rattle.core_journal.proofs.history.a_call_extends_its_book.Goals as goal

pub returns : goal.returns
returns c = λ sizes front rest book e h i right only. book_push sizes front rest book e h i right only
