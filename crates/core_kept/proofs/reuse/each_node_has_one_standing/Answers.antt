use Rattle.core_kept.proofs.OneStanding.{some_standing, one_standing, listed_free}
use Rattle.core_kept.proofs.reuse.each_node_has_one_standing.Goals as goal

pub returns-clause-some : goal.returns-clause-some
returns-clause-some c = λ sizes z journal kept x there. some_standing sizes z journal kept x there

pub returns-clause-one : goal.returns-clause-one
returns-clause-one c = λ sizes journal x a b p q. one_standing sizes journal x a b p q

pub returns-clause-listed : goal.returns-clause-listed
returns-clause-listed c = λ sizes z journal kept x on. listed_free sizes z journal kept x on
