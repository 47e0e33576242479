use Rattle.core_lists.proofs.LowerCounters.{unstored_met}
use Rattle.core_kept.proofs.MarkedWords.{marked_link_stays}
use Rattle.core_kept.proofs.MetWords.{still_met, key_stays, edge_stays}
use Rattle.core_lists.proofs.reuse.what_is_met_keeps_its_words.Goals as goal

pub returns-clause-met : goal.returns-clause-met
returns-clause-met c = λ sizes z front journal kept caller x p m. (still_met sizes z front journal kept caller x p m).0

pub returns-clause-life : goal.returns-clause-life
returns-clause-life c = λ sizes z front journal kept caller x p m.
    (still_met sizes z front journal kept caller x p m).1.tag

pub returns-clause-kind : goal.returns-clause-kind
returns-clause-kind c = λ sizes z front journal kept caller x p m.
    (still_met sizes z front journal kept caller x p m).1.vertex

pub returns-clause-key : goal.returns-clause-key
returns-clause-key c = λ sizes z front journal kept caller x there p m. key_stays sizes z front journal kept caller x p
    m there

pub returns-clause-target : goal.returns-clause-target
returns-clause-target c = λ sizes z front journal kept caller x there p m edge.
    (edge_stays sizes z front journal kept caller x p m there edge).0

pub returns-clause-weight : goal.returns-clause-weight
returns-clause-weight c = λ sizes z front journal kept caller x there p m edge.
    (edge_stays sizes z front journal kept caller x p m there edge).1

pub returns-clause-source : goal.returns-clause-source
returns-clause-source c = λ sizes z front journal kept caller x p m.
    (still_met sizes z front journal kept caller x p m).1.source

pub returns-clause-unstored : goal.returns-clause-unstored
returns-clause-unstored c = λ sizes z journal kept caller x there m. unstored_met sizes z journal kept caller x there m

pub returns-clause-link : goal.returns-clause-link
returns-clause-link c = λ sizes z front journal kept caller x there p m marked.
    let s = still_met sizes z front journal kept caller x p m in
    marked_link_stays sizes z x front journal p.before kept m.fresh marked s.1.tag
    (unstored_met sizes z journal kept caller x there s.0)
