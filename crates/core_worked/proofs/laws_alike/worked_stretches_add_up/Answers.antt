use Rattle.core_worked.proofs.WorkedAlike.{all_leave, all_elsewhere, none_own, none_looking, goes_itself, opened_still}
use Rattle.core_worked.proofs.WorkedAlike.{goes_from_between, none_spent, two_spent, no_fewer_spent, few_spent, two_fit}
use Rattle.core_worked.proofs.laws_alike.worked_stretches_add_up.Goals as goal

pub returns-clause-leaves : goal.returns-clause-leaves
returns-clause-leaves c = all_leave

pub returns-clause-elsewhere : goal.returns-clause-elsewhere
returns-clause-elsewhere c = all_elsewhere

pub returns-clause-same : goal.returns-clause-same
returns-clause-same c = none_own

pub returns-clause-look : goal.returns-clause-look
returns-clause-look c = none_looking

pub returns-clause-goes : goal.returns-clause-goes
returns-clause-goes c = goes_itself

pub returns-clause-opened : goal.returns-clause-opened
returns-clause-opened c = opened_still

pub returns-clause-from_between : goal.returns-clause-from_between
returns-clause-from_between c = goes_from_between

pub returns-clause-spent : goal.returns-clause-spent
returns-clause-spent c = (none_spent, two_spent)

pub returns-clause-no_fewer : goal.returns-clause-no_fewer
returns-clause-no_fewer c = no_fewer_spent

pub returns-clause-bound : goal.returns-clause-bound
returns-clause-bound c = few_spent

pub returns-clause-room : goal.returns-clause-room
returns-clause-room c = two_fit
