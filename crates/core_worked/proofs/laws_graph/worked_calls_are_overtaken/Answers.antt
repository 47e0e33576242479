use Rattle.core_worked.proofs.WorkedGraph.{mark_exists, first_of_both, both_living, same_in_front, one_there}
use Rattle.core_worked.proofs.laws_graph.worked_calls_are_overtaken.Goals as goal

pub returns-clause-found : goal.returns-clause-found
returns-clause-found c = mark_exists

pub returns-clause-first : goal.returns-clause-first
returns-clause-first c = first_of_both

pub returns-clause-own : goal.returns-clause-own
returns-clause-own c = both_living

pub returns-clause-same : goal.returns-clause-same
returns-clause-same c = same_in_front

pub returns-clause-one : goal.returns-clause-one
returns-clause-one c = one_there
