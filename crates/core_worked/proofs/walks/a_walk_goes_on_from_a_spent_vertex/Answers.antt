use Rattle.core_worked.proofs.WorkedWalk.{walked, spent_by_then, walked_nodes}
use Rattle.core_worked.proofs.walks.a_walk_goes_on_from_a_spent_vertex.Goals as goal

pub returns-clause-walk : goal.returns-clause-walk
returns-clause-walk c = walked

pub returns-clause-spent : goal.returns-clause-spent
returns-clause-spent c = spent_by_then

pub returns-clause-nodes : goal.returns-clause-nodes
returns-clause-nodes c = walked_nodes
