use Rattle.core_lists.proofs.MetWordsLead.{linked_met, walk_head, walk_link, walk_list}
use Rattle.core_lists.proofs.WalksMeet.{walk_meets}
use Rattle.core_lists.proofs.walks.a_walk_meets_what_its_pass_may_hold.Goals as goal

pub returns-clause-head : goal.returns-clause-head
returns-clause-head c = λ sizes z journal kept caller open_ j low. walk_head sizes z journal kept caller open_ j low

pub returns-clause-link : goal.returns-clause-link
returns-clause-link c = λ sizes z journal kept caller x there m. walk_link sizes z journal kept caller x there m

pub returns-clause-list : goal.returns-clause-list
returns-clause-list c = λ sizes z journal kept caller x there m vertex. walk_list sizes z journal kept caller x there m
    vertex

pub returns-clause-linked : goal.returns-clause-linked
returns-clause-linked c = λ sizes journal caller x open_ linked. linked_met sizes journal caller open_ x linked

pub returns-clause-walk : goal.returns-clause-walk
returns-clause-walk c = λ sizes z journal kept caller loads walk. walk_meets sizes z journal kept caller loads walk
