use Rattle.core_worked.proofs.WorkedSweep.{clean_one, same_one, clean_two, swept_one, each_one, exact_one, empty_one}
use Rattle.core_worked.proofs.laws_counts.worked_tables_are_swept.Goals as goal

pub returns-clause-vertex : goal.returns-clause-vertex
returns-clause-vertex c = clean_one

pub returns-clause-linked : goal.returns-clause-linked
returns-clause-linked c = same_one

pub returns-clause-edge : goal.returns-clause-edge
returns-clause-edge c = clean_two

pub returns-clause-swept : goal.returns-clause-swept
returns-clause-swept c = swept_one

pub returns-clause-each : goal.returns-clause-each
returns-clause-each c = each_one

pub returns-clause-full : goal.returns-clause-full
returns-clause-full c = exact_one

pub returns-clause-none : goal.returns-clause-none
returns-clause-none c = empty_one
