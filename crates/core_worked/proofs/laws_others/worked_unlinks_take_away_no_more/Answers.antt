use Rattle.core_worked.proofs.WorkedOthers.{quiet_between, vertex_unlinked, edges_unlinked, three_listed, none_listed}
use Rattle.core_worked.proofs.WorkedOthers.{taken_off, list_behind}
use Rattle.core_worked.proofs.laws_others.worked_unlinks_take_away_no_more.Goals as goal

pub returns-clause-quiet : goal.returns-clause-quiet
returns-clause-quiet c = quiet_between

pub returns-clause-vertex : goal.returns-clause-vertex
returns-clause-vertex c = vertex_unlinked

pub returns-clause-edges : goal.returns-clause-edges
returns-clause-edges c = edges_unlinked

pub returns-clause-three : goal.returns-clause-three
returns-clause-three c = three_listed

pub returns-clause-none : goal.returns-clause-none
returns-clause-none c = none_listed

pub returns-clause-off : goal.returns-clause-off
returns-clause-off c = taken_off

pub returns-clause-list : goal.returns-clause-list
returns-clause-list c = list_behind
