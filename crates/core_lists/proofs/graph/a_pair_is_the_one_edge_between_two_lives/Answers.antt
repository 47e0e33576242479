use Rattle.core_lists.proofs.GraphOfLives.{weight_between, no_edge_no_pair, other_target_no_pair}
use Rattle.core_lists.proofs.graph.a_pair_is_the_one_edge_between_two_lives.Goals as goal

pub returns-clause-weight : goal.returns-clause-weight
returns-clause-weight c = λ sizes z journal kept x link a b is uncut from to. weight_between sizes z journal kept x link
    a b is uncut from to

pub returns-clause-none : goal.returns-clause-none
returns-clause-none c = λ sizes z journal kept source a b there cut. no_edge_no_pair sizes z journal kept source a b
    there cut

pub returns-clause-other : goal.returns-clause-other
returns-clause-other c = λ sizes z journal kept source target x link a b there to is uncut from key apart.
    other_target_no_pair sizes z journal kept source target x link a b there to is uncut from key apart
