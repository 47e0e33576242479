use Rattle.core_rule.proofs.SpentSince.{spent_since_bound, spent_since_grows, unlink_counts}
use Rattle.core_rule.proofs.stretches.own_spent_nodes_are_a_measure.Goals as goal

pub returns-clause-no_fewer : goal.returns-clause-no_fewer
returns-clause-no_fewer c = λ v w z g opened. spent_since_grows v w z g opened

pub returns-clause-unlink : goal.returns-clause-unlink
returns-clause-unlink c = λ v w e z t by is opened. unlink_counts v w e z t by opened is

pub returns-clause-bound : goal.returns-clause-bound
returns-clause-bound c = λ v. spent_since_bound v
