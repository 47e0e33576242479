use Rattle.core_journal.proofs.CallersBooks.{callers_regular, callers_apart, late_right, callers_true, callers_closed}
use Rattle.core_journal.proofs.CallersBooks.{callers_graph, callers_items, callers_legal}
use Rattle.core_journal.proofs.WorkedReuse.{callers_reuse}
use Rattle.core_journal.proofs.WorkedWords.{words_callers, free_callers, bucket_callers, edges_callers}
use Rattle.core_journal.proofs.worked.a_late_edge_is_legal.Goals as goal

pub returns-clause-words : goal.returns-clause-words
returns-clause-words c = words_callers

pub returns-clause-free : goal.returns-clause-free
returns-clause-free c = free_callers

pub returns-clause-bucket : goal.returns-clause-bucket
returns-clause-bucket c = bucket_callers

pub returns-clause-edges : goal.returns-clause-edges
returns-clause-edges c = edges_callers

pub returns-clause-regular : goal.returns-clause-regular
returns-clause-regular c = callers_regular

pub returns-clause-reuse : goal.returns-clause-reuse
returns-clause-reuse c = callers_reuse

pub returns-clause-apart : goal.returns-clause-apart
returns-clause-apart c = callers_apart

pub returns-clause-late : goal.returns-clause-late
returns-clause-late c = late_right

pub returns-clause-books : goal.returns-clause-books
returns-clause-books c = callers_true

pub returns-clause-closed : goal.returns-clause-closed
returns-clause-closed c = callers_closed

pub returns-clause-graph : goal.returns-clause-graph
returns-clause-graph c = callers_graph

pub returns-clause-history : goal.returns-clause-history
returns-clause-history c = callers_items

pub returns-clause-legal : goal.returns-clause-legal
returns-clause-legal c = callers_legal
