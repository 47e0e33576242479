use Rattle.core_counts.proofs.AllNodesOfGraph.{empty_none, none_empty}
use Rattle.core_counts.proofs.nodes.an_empty_list_has_no_free_node.Goals as goal

pub returns-clause-none : goal.returns-clause-none
returns-clause-none c = λ sizes z journal kept n x t. empty_none sizes z journal kept n x t

pub returns-clause-empty : goal.returns-clause-empty
returns-clause-empty c = λ sizes z journal kept h. none_empty sizes z journal kept h
