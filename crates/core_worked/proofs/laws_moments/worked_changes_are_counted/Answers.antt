use Rattle.core_worked.proofs.MomentsShown.{one_change, only_first, as_many, none_after}
use Rattle.core_worked.proofs.laws_moments.worked_changes_are_counted.Goals as goal

pub returns-clause-one : goal.returns-clause-one
returns-clause-one c = one_change

pub returns-clause-only : goal.returns-clause-only
returns-clause-only c = λ p e at by does. only_first p e at by does

pub returns-clause-same : goal.returns-clause-same
returns-clause-same c = as_many

pub returns-clause-none : goal.returns-clause-none
returns-clause-none c = λ p e since at by. none_after p e since at by
