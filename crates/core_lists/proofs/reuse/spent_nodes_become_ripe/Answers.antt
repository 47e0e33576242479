use Rattle.core_lists.proofs.RipeningNodes.{stamped, ripens, stamp_beyond, stamp_behind, ripe_beyond, ripe_behind}
use Rattle.core_lists.proofs.reuse.spent_nodes_become_ripe.Goals as goal

pub returns-clause-stamp : goal.returns-clause-stamp
returns-clause-stamp c = λ sizes journal caller x stamp s low. stamped sizes journal caller x stamp s low

pub returns-clause-ripens : goal.returns-clause-ripens
returns-clause-ripens c = λ sizes shown journal p caller x stamp s high. ripens sizes shown journal p caller x stamp s
    high

pub returns-clause-stamp_beyond : goal.returns-clause-stamp_beyond
returns-clause-stamp_beyond c = λ sizes z caller last x stamp front journal p kept quiet old t. stamp_beyond sizes z
    caller last x stamp front journal p kept quiet old t

pub returns-clause-stamp_behind : goal.returns-clause-stamp_behind
returns-clause-stamp_behind c = λ sizes z past e kept caller x stamp other t. stamp_behind sizes z past e kept caller x
    stamp other t

pub returns-clause-ripe_beyond : goal.returns-clause-ripe_beyond
returns-clause-ripe_beyond c = λ sizes z caller last x front journal p kept quiet old r. ripe_beyond sizes z caller last
    x front journal p kept quiet old r

pub returns-clause-ripe_behind : goal.returns-clause-ripe_behind
returns-clause-ripe_behind c = λ sizes z past e kept caller x other r. ripe_behind sizes z past e kept caller x other r
