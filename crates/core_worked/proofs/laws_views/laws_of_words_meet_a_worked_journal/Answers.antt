use Rattle.core_worked.proofs.LawSteps.{fresh_3_stored, fresh_3_held, spent_2_kept, head_tells, target_tells}
use Rattle.core_worked.proofs.LawSteps.{target_stays}
use Rattle.core_worked.proofs.laws_views.laws_of_words_meet_a_worked_journal.Goals as goal

pub returns-clause-stored : goal.returns-clause-stored
returns-clause-stored c = fresh_3_stored

pub returns-clause-fresh : goal.returns-clause-fresh
returns-clause-fresh c = fresh_3_held

pub returns-clause-spent : goal.returns-clause-spent
returns-clause-spent c = spent_2_kept

pub returns-clause-head : goal.returns-clause-head
returns-clause-head c = head_tells

pub returns-clause-target : goal.returns-clause-target
returns-clause-target c = target_tells

pub returns-clause-later : goal.returns-clause-later
returns-clause-later c = target_stays
