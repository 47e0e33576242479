use Rattle.core_lists.proofs.LivesOnLists.{present_edge}
use Rattle.core_lists.proofs.lists.a_present_edge_is_on_its_list.Goals as goal

pub returns-clause-life : goal.returns-clause-life
returns-clause-life c = λ sizes z journal kept x link is unmarked.
    (present_edge sizes z journal kept x link is unmarked).life

pub returns-clause-linked : goal.returns-clause-linked
returns-clause-linked c = λ sizes z journal kept x link is unmarked.
    (present_edge sizes z journal kept x link is unmarked).linked

pub returns-clause-at : goal.returns-clause-at
returns-clause-at c = λ sizes z journal kept x link is unmarked.
    (present_edge sizes z journal kept x link is unmarked).at
