use Rattle.core_journal.proofs.Onward.{book_more}
use Rattle.core_journal.proofs.history.books_of_fronts_stay.Goals as goal

pub returns : goal.returns
returns c = λ sizes front rest book h quiet. book_more sizes front rest book h quiet
