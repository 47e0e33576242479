use Rattle.core_journal.proofs.Fronts.{regular_prefix, reuse_prefix}
use Rattle.core_journal.proofs.lives.fronts_are_journals.Goals as goal

pub returns-clause-regular : goal.returns-clause-regular
returns-clause-regular c = λ front journal p r. regular_prefix front journal p r

pub returns-clause-reuse : goal.returns-clause-reuse
returns-clause-reuse c = λ sizes front journal p r. reuse_prefix sizes front journal p r
