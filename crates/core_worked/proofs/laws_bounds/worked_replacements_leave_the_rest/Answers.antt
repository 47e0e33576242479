use Rattle.core_worked.proofs.WorkedBounds.{two_keys_left, one_pair_left, few_of_table, whole_graph, only_graph}
use Rattle.core_worked.proofs.WorkedBounds.{target_stays, replaced_handed}
use Rattle.core_worked.proofs.laws_bounds.worked_replacements_leave_the_rest.Goals as goal

pub returns-clause-counted : goal.returns-clause-counted
returns-clause-counted c = (two_keys_left, one_pair_left)

pub returns-clause-few : goal.returns-clause-few
returns-clause-few c = few_of_table

pub returns-clause-one_key : goal.returns-clause-one_key
returns-clause-one_key c = whole_graph

pub returns-clause-only : goal.returns-clause-only
returns-clause-only c = only_graph

pub returns-clause-stays : goal.returns-clause-stays
returns-clause-stays c = target_stays

pub returns-clause-handed : goal.returns-clause-handed
returns-clause-handed c = replaced_handed
