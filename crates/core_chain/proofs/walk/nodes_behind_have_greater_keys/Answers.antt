-- Keys rise along a chain.
use Rattle.core_chain.proofs.Walks.{all_behind, all_greater, one_of_key}
use Rattle.core_chain.proofs.walk.nodes_behind_have_greater_keys.Goals as goal

pub returns-clause-behind : goal.returns-clause-behind
returns-clause-behind c = all_behind

pub returns-clause-once : goal.returns-clause-once
returns-clause-once c = one_of_key

pub returns-clause-greater : goal.returns-clause-greater
returns-clause-greater c = all_greater
