use Rattle.core_rule.proofs.StepsKeepRule.{replies}
use Rattle.core_rule.proofs.rule.a_reply_keeps_the_rule.Goals as goal

pub returns : goal.returns
returns c = λ n id i v entry. replies n id i v entry
