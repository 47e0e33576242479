use Rattle.core_kept.proofs.Induction.{past_kept, last_allowed}
use Rattle.core_counts.proofs.CleanVertices.{clean_stays}
use Rattle.core_counts.proofs.sweeping.clean_vertices_stay.Goals as goal

pub returns : goal.returns
returns c = λ sizes z past e kept x n h. clean_stays sizes z past e (past_kept sizes past e kept)
    (last_allowed sizes past e kept) x n h
