use Rattle.core_journal.proofs.FirstMarkOfLife.{first_mark_of, first_cut_of}
use Rattle.core_journal.proofs.passing.a_mark_has_its_first_event.Goals as goal

pub returns-clause-vertex : goal.returns-clause-vertex
returns-clause-vertex c = λ front journal p x f t. first_mark_of front journal p x f t

pub returns-clause-edge : goal.returns-clause-edge
returns-clause-edge c = λ front journal p x f t. first_cut_of front journal p x f t
