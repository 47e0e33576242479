use Rattle.core_worked.proofs.WorkedGraph.{front_book, book_stays, book_extends}
use Rattle.core_worked.proofs.laws_graph.worked_books_stay_true.Goals as goal

pub returns-clause-front : goal.returns-clause-front
returns-clause-front c = front_book

pub returns-clause-stays : goal.returns-clause-stays
returns-clause-stays c = book_stays

pub returns-clause-extends : goal.returns-clause-extends
returns-clause-extends c = book_extends
