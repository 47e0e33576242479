use Rattle.core_journal.proofs.LivesOf.{only_pair}
use Rattle.core_lists.proofs.LivesOnLists.{one_listed, one_unmarked, one_present_edge}
use Rattle.core_lists.proofs.OneEdgeOfPair.{one_pair}
use Rattle.core_lists.proofs.lists.one_edge_has_a_pair.Goals as goal

pub returns-clause-listed : goal.returns-clause-listed
returns-clause-listed c = λ sizes z journal kept source has x y a b same. one_listed sizes z journal kept source has x y
    a b same

pub returns-clause-unmarked : goal.returns-clause-unmarked
returns-clause-unmarked c = λ sizes z journal kept source x y a b same unmarked. one_unmarked sizes z journal kept
    source x y a b same unmarked

pub returns-clause-present : goal.returns-clause-present
returns-clause-present c = λ sizes z journal kept x y a b is_a is_b from same u v. one_present_edge sizes z journal kept
    x y a b is_a is_b from same u v

pub returns-clause-pair : goal.returns-clause-pair
returns-clause-pair c = λ sizes z journal kept x y a b v w h g. one_pair sizes z journal kept x y a b v w h g

pub returns-clause-weight : goal.returns-clause-weight
returns-clause-weight c = λ sizes z journal kept x a b w h. only_pair journal x a b w h
    (λ y v g. one_pair sizes z journal kept y x a b v w g h)
