use Rattle.core_worked.proofs.ReplacingSteps.{refused_not_raised, refused_same_weight, refused_other_target}
use Rattle.core_worked.proofs.ReplacingSteps.{refused_marked}
use Rattle.core_worked.proofs.replacements.wrong_replacements_are_refused.Goals as goal

pub returns-clause-unraised : goal.returns-clause-unraised
returns-clause-unraised c = refused_not_raised

pub returns-clause-same_weight : goal.returns-clause-same_weight
returns-clause-same_weight c = refused_same_weight

pub returns-clause-other_target : goal.returns-clause-other_target
returns-clause-other_target c = refused_other_target

pub returns-clause-marked : goal.returns-clause-marked
returns-clause-marked c = refused_marked
