use Rattle.core_counts.proofs.ExactFull.{full_exact, all_empty}
use Rattle.core_counts.proofs.sweeping.full_is_exact_for_one_caller.Goals as goal

pub returns-clause-full : goal.returns-clause-full
returns-clause-full c = λ sizes z front later kept same caller none fresh spent swept others. full_exact sizes z front
    later kept same caller none fresh spent swept others

pub returns-clause-none : goal.returns-clause-none
returns-clause-none c = λ sizes z front later kept same is. all_empty sizes z front later kept same is
