use Rattle.std.proofs.Common.{arith}
use Rattle.core_epoch.specs.Free.{take, give, leave}
use Rattle.core_epoch.proofs.WorkedPools.{opens, first_step, second_step, third_step, fourth_step}
use Rattle.core_epoch.proofs.worked.a_worked_free_list.Goals as goal

pub returns-clause-opens : goal.returns-clause-opens
returns-clause-opens c = opens

pub returns-clause-runs : goal.returns-clause-runs
returns-clause-runs c = (take 0 first_step, (leave second_step, (leave third_step, (give 0 fourth_step, tt))))

pub returns-clause-other_word : goal.returns-clause-other_word
returns-clause-other_word c = λ h. omega (arith, h)
