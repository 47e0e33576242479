use Rattle.core_worked.proofs.WorkedLists.{head_closed, end_frozen, part_frozen, listed_before, all_ended}
use Rattle.core_worked.proofs.WorkedLists.{part_of_spender, on_chain_40, alive_40, removed_42, edge_of_0}
use Rattle.core_worked.proofs.WorkedLists.{edge_linked_38}
use Rattle.core_worked.proofs.laws_lists.worked_lists_are_closed.Goals as goal

pub returns-clause-head : goal.returns-clause-head
returns-clause-head c = head_closed

pub returns-clause-end : goal.returns-clause-end
returns-clause-end c = end_frozen

pub returns-clause-part : goal.returns-clause-part
returns-clause-part c = part_frozen

pub returns-clause-old : goal.returns-clause-old
returns-clause-old c = listed_before

pub returns-clause-ends : goal.returns-clause-ends
returns-clause-ends c = all_ended

pub returns-clause-who : goal.returns-clause-who
returns-clause-who c = part_of_spender

pub returns-clause-on_chain : goal.returns-clause-on_chain
returns-clause-on_chain c = on_chain_40

pub returns-clause-present : goal.returns-clause-present
returns-clause-present c = alive_40

pub returns-clause-removed : goal.returns-clause-removed
returns-clause-removed c = removed_42

pub returns-clause-edge_of : goal.returns-clause-edge_of
returns-clause-edge_of c = edge_of_0

pub returns-clause-edge_linked : goal.returns-clause-edge_linked
returns-clause-edge_linked c = edge_linked_38
