use Rattle.core_lists.proofs.ClosedHeadStays.{head_stays, finished_stays, part_stays, old_lists, old_finished}
use Rattle.core_lists.proofs.lists.closed_lists_stay.Goals as goal

pub returns-clause-head : goal.returns-clause-head
returns-clause-head c = λ sizes z x front journal p kept tag h. head_stays sizes z x front journal p kept tag h

pub returns-clause-end : goal.returns-clause-end
returns-clause-end c = λ sizes z x front journal p kept tag f. finished_stays sizes z x front journal p kept tag f

pub returns-clause-part : goal.returns-clause-part
returns-clause-part c = λ sizes z x y front journal p kept tx ty h u. part_stays sizes z x y front journal p kept tx ty
    h u

pub returns-clause-old : goal.returns-clause-old
returns-clause-old c = λ sizes z y front journal p kept fresh tag x h. old_lists sizes z y front journal p kept fresh
    tag x h

pub returns-clause-ends : goal.returns-clause-ends
returns-clause-ends c = λ sizes z y front journal p kept fresh tag done x t h. old_finished sizes z y front journal p
    kept fresh tag done x t h
