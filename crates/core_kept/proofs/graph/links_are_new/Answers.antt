use Rattle.core_kept.proofs.EdgeEnds.{new_vertex, new_edge, new_replacing, frozen_edge}
use Rattle.core_kept.proofs.graph.links_are_new.Goals as goal

pub returns-clause-vertex : goal.returns-clause-vertex
returns-clause-vertex c = λ sizes z past e kept is ok. new_vertex sizes z past e kept is ok

pub returns-clause-edge : goal.returns-clause-edge
returns-clause-edge c = λ sizes z past e kept is ok. new_edge sizes z past e kept is ok

pub returns-clause-replacing : goal.returns-clause-replacing
returns-clause-replacing c = λ sizes z past e kept is ok. new_replacing sizes z past e kept is ok

pub returns-clause-frozen : goal.returns-clause-frozen
returns-clause-frozen c = λ sizes z past e kept is ok. frozen_edge sizes z past e kept is ok
