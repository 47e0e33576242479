use mathlib.Core.Option.{none}
use Rattle.core_rule.proofs.StepsKeepRule.{looks, turns, stores}
use Rattle.core_rule.proofs.rule.steps_keep_the_rule.Goals as goal

pub returns-clause-load : goal.returns-clause-load
returns-clause-load c = λ n id i v. looks n id i v

pub returns-clause-change : goal.returns-clause-change
returns-clause-change c = λ n id i a b v f wins event has owes. turns n id i a b none v f wins event has owes

pub returns-clause-store : goal.returns-clause-store
returns-clause-store c = λ n id i a b v event has owes. stores n id i a b none v event has owes
