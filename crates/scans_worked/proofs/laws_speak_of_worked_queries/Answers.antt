use Rattle.scans_worked.proofs.QueriesLook.{foreign_between, held_between, held_after, part_after, weight_after}
use Rattle.scans_worked.proofs.laws_speak_of_worked_queries.Goals as goal

pub returns-clause-differs : goal.returns-clause-differs
returns-clause-differs c = foreign_between

pub returns-clause-between : goal.returns-clause-between
returns-clause-between c = held_between

pub returns-clause-after : goal.returns-clause-after
returns-clause-after c = held_after

pub returns-clause-part : goal.returns-clause-part
returns-clause-part c = part_after

pub returns-clause-weight : goal.returns-clause-weight
returns-clause-weight c = weight_after
