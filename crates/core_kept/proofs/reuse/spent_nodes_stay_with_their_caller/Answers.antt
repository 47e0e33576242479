use Rattle.core_kept.proofs.OwnSpent.{spent_stays}
use Rattle.core_kept.proofs.reuse.spent_nodes_stay_with_their_caller.Goals as goal

pub returns : goal.returns
returns c = λ sizes z caller last x there front journal p kept quiet old f. spent_stays sizes z caller last x there
    front journal p kept quiet old f
