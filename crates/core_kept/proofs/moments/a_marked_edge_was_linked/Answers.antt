use Rattle.core_kept.proofs.CutEdges.{cut_was_linked}
use Rattle.core_kept.proofs.moments.a_marked_edge_was_linked.Goals as goal

pub returns : goal.returns
returns c = λ sizes z past e kept is. cut_was_linked sizes z past e kept is
