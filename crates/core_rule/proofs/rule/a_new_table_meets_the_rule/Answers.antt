use Rattle.core_rule.proofs.ViewsFit.{begins}
use Rattle.core_rule.proofs.rule.a_new_table_meets_the_rule.Goals as goal

pub returns : goal.returns
returns c = λ sizes. begins sizes
