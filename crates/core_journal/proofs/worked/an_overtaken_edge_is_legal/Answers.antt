use Rattle.core_journal.proofs.WorkedBooks.{worked_regular, worked_apart, worked_true, worked_closed, worked_graph}
use Rattle.core_journal.proofs.WorkedBooks.{worked_items, worked_legal}
use Rattle.core_journal.proofs.worked.an_overtaken_edge_is_legal.Goals as goal

pub returns-clause-regular : goal.returns-clause-regular
returns-clause-regular c = worked_regular

pub returns-clause-apart : goal.returns-clause-apart
returns-clause-apart c = worked_apart

pub returns-clause-books : goal.returns-clause-books
returns-clause-books c = worked_true

pub returns-clause-closed : goal.returns-clause-closed
returns-clause-closed c = worked_closed

pub returns-clause-graph : goal.returns-clause-graph
returns-clause-graph c = worked_graph

pub returns-clause-history : goal.returns-clause-history
returns-clause-history c = worked_items

pub returns-clause-legal : goal.returns-clause-legal
returns-clause-legal c = worked_legal
