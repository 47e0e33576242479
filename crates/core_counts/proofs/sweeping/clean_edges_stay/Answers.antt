use Rattle.core_kept.proofs.Induction.{past_kept, last_allowed}
use Rattle.core_counts.proofs.CleanEdges.{clean_edge, linked_same}
use Rattle.core_counts.proofs.sweeping.clean_edges_stay.Goals as goal

pub returns-clause-linked : goal.returns-clause-linked
returns-clause-linked c = λ sizes z past e kept x l u n m. linked_same sizes z past e (past_kept sizes past e kept)
    (last_allowed sizes past e kept) x l u n m

pub returns-clause-edge : goal.returns-clause-edge
returns-clause-edge c = λ sizes z past e kept y a r b d h. clean_edge sizes z past e (past_kept sizes past e kept)
    (last_allowed sizes past e kept) y a r b d h
