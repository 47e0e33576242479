use Rattle.core_journal.proofs.WorkedList.{list_closed, bucket_closed, mode_closing, mode_closed, who_closed}
use Rattle.core_journal.proofs.WorkedList.{ended_closed, end_closed}
use Rattle.core_journal.proofs.worked.a_closed_list_is_handed_over.Goals as goal

pub returns-clause-edges : goal.returns-clause-edges
returns-clause-edges c = list_closed

pub returns-clause-bucket : goal.returns-clause-bucket
returns-clause-bucket c = bucket_closed

pub returns-clause-before : goal.returns-clause-before
returns-clause-before c = mode_closing

pub returns-clause-spent : goal.returns-clause-spent
returns-clause-spent c = mode_closed

pub returns-clause-who : goal.returns-clause-who
returns-clause-who c = who_closed

pub returns-clause-ended : goal.returns-clause-ended
returns-clause-ended c = ended_closed

pub returns-clause-ends : goal.returns-clause-ends
returns-clause-ends c = end_closed
