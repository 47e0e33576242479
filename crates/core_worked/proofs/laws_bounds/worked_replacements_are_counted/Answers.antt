use Rattle.core_worked.proofs.WorkedBounds.{replaced_way, few_unlinks, few_marks}
use Rattle.core_worked.proofs.laws_bounds.worked_replacements_are_counted.Goals as goal

pub returns-clause-one_way : goal.returns-clause-one_way
returns-clause-one_way c = replaced_way

pub returns-clause-cut : goal.returns-clause-cut
returns-clause-cut c = few_unlinks

pub returns-clause-cuts : goal.returns-clause-cuts
returns-clause-cuts c = few_marks
