use Rattle.core_lists.proofs.LowerCounters.{marked_lower, counter_rises}
use Rattle.core_lists.proofs.RaisedInPass.{raised_in_pass}
use Rattle.core_lists.proofs.raises.marked_edges_were_linked_at_a_lower_counter.Goals as goal

pub returns-clause-marked : goal.returns-clause-marked
returns-clause-marked c = λ sizes z journal kept p e link at marks is live. marked_lower sizes z journal kept p e link
    at marks is live

pub returns-clause-raised : goal.returns-clause-raised
returns-clause-raised c = λ sizes z journal kept caller x link is open_ r.
    (raised_in_pass sizes z journal kept caller x link is open_ r).0

pub returns-clause-unstored : goal.returns-clause-unstored
returns-clause-unstored c = λ sizes z journal kept caller x link is open_ r.
    (raised_in_pass sizes z journal kept caller x link is open_ r).1

pub returns-clause-rises : goal.returns-clause-rises
returns-clause-rises c = λ sizes z x front journal p kept fresh tag. counter_rises sizes z x front journal p kept fresh
    tag
