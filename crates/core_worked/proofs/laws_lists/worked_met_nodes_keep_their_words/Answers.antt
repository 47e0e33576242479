use Rattle.core_worked.proofs.WorkedLists.{ripe_moved, met_44, life_44, key_44, target_44, weight_44, source_44}
use Rattle.core_worked.proofs.WorkedLists.{unstored_44, link_44, stamp_45, stamp_47, ripe_47, stamp_48, ripe_48}
use Rattle.core_worked.proofs.laws_lists.worked_met_nodes_keep_their_words.Goals as goal

pub returns-clause-met : goal.returns-clause-met
returns-clause-met c = met_44

pub returns-clause-life : goal.returns-clause-life
returns-clause-life c = life_44

pub returns-clause-key : goal.returns-clause-key
returns-clause-key c = key_44

pub returns-clause-target : goal.returns-clause-target
returns-clause-target c = target_44

pub returns-clause-weight : goal.returns-clause-weight
returns-clause-weight c = weight_44

pub returns-clause-source : goal.returns-clause-source
returns-clause-source c = source_44

pub returns-clause-unstored : goal.returns-clause-unstored
returns-clause-unstored c = unstored_44

pub returns-clause-link : goal.returns-clause-link
returns-clause-link c = link_44

pub returns-clause-stamp : goal.returns-clause-stamp
returns-clause-stamp c = stamp_45

pub returns-clause-beyond : goal.returns-clause-beyond
returns-clause-beyond c = stamp_47

pub returns-clause-ripens : goal.returns-clause-ripens
returns-clause-ripens c = ripe_47

pub returns-clause-stamp_behind : goal.returns-clause-stamp_behind
returns-clause-stamp_behind c = stamp_48

pub returns-clause-ripe_behind : goal.returns-clause-ripe_behind
returns-clause-ripe_behind c = ripe_48

pub returns-clause-ripe_beyond : goal.returns-clause-ripe_beyond
returns-clause-ripe_beyond c = ripe_moved
