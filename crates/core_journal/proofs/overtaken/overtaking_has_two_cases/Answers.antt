use Rattle.core_journal.proofs.FirstMarks.{first_mark, own_case, late_case}
use Rattle.core_journal.proofs.overtaken.overtaking_has_two_cases.Goals as goal

pub returns-clause-found : goal.returns-clause-found
returns-clause-found c = first_mark

pub returns-clause-own : goal.returns-clause-own
returns-clause-own c = own_case

pub returns-clause-late : goal.returns-clause-late
returns-clause-late c = late_case
