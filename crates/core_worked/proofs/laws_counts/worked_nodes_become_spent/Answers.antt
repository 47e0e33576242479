use Rattle.std.proofs.Common.{refl}
use Rattle.core_worked.proofs.WorkedCounts.{handed, got_all, at_rest, idle}
use Rattle.core_worked.proofs.laws_counts.worked_nodes_become_spent.Goals as goal

pub returns-clause-handed : goal.returns-clause-handed
returns-clause-handed c = handed

pub returns-clause-got : goal.returns-clause-got
returns-clause-got c = got_all

pub returns-clause-settled : goal.returns-clause-settled
returns-clause-settled c = λ y h. (at_rest.was y h).0

pub returns-clause-ends : goal.returns-clause-ends
returns-clause-ends c = at_rest.ends

pub returns-clause-idle : goal.returns-clause-idle
returns-clause-idle c = (refl, idle.pass)

pub returns-clause-fresh : goal.returns-clause-fresh
returns-clause-fresh c = idle.fresh

pub returns-clause-spent : goal.returns-clause-spent
returns-clause-spent c = idle.spent
