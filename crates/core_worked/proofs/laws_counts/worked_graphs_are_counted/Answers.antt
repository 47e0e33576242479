use Rattle.core_worked.proofs.OneNode.{one_vertex_kept, one_vertex_empty}
use Rattle.core_worked.proofs.WorkedCounts.{counted_keys, counted_pairs, none_left, all_one, full_one}
use Rattle.core_worked.proofs.laws_counts.worked_graphs_are_counted.Goals as goal

pub returns-clause-counted : goal.returns-clause-counted
returns-clause-counted c = (counted_keys, counted_pairs)

pub returns-clause-kept : goal.returns-clause-kept
returns-clause-kept c = one_vertex_kept

pub returns-clause-empty : goal.returns-clause-empty
returns-clause-empty c = one_vertex_empty

pub returns-clause-none : goal.returns-clause-none
returns-clause-none c = none_left

pub returns-clause-all : goal.returns-clause-all
returns-clause-all c = all_one

pub returns-clause-full : goal.returns-clause-full
returns-clause-full c = full_one
