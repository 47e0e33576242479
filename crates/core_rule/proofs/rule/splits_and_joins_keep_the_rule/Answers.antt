use Rattle.core_rule.proofs.StepsKeepRule.{splits, joins, meets}
use Rattle.core_rule.proofs.rule.splits_and_joins_keep_the_rule.Goals as goal

pub returns-clause-split : goal.returns-clause-split
returns-clause-split c = λ sizes id v. splits sizes id v

pub returns-clause-join : goal.returns-clause-join
returns-clause-join c = λ sizes id other v w bare bare'. joins sizes id v other w bare bare'

pub returns-clause-meet : goal.returns-clause-meet
returns-clause-meet c = λ n id i v. meets n id i v
