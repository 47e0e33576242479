use Rattle.core_kept.proofs.Induction.{past_kept, last_allowed}
use Rattle.core_counts.proofs.NodesBecomeSpent.{becoming, settled}
use Rattle.core_counts.proofs.spending.nodes_become_spent.Goals as goal

pub returns-clause-event : goal.returns-clause-event
returns-clause-event c = λ sizes z past e kept caller y h. becoming sizes z past e (past_kept sizes past e kept)
    (last_allowed sizes past e kept) caller y h

pub returns-clause-settled : goal.returns-clause-settled
returns-clause-settled c = λ sizes z caller last front journal p kept quiet old ends y h.
    (settled sizes z caller last front journal p kept quiet old ends).was y h

pub returns-clause-ends : goal.returns-clause-ends
returns-clause-ends c = λ sizes z caller last front journal p kept quiet old ends x h.
    (settled sizes z caller last front journal p kept quiet old ends).ends x h
