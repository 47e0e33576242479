use Rattle.graph_table.proofs.FilledNodes.{link_filled, replace_filled}
use Rattle.graph_table.proofs.laws.an_edge_is_linked_as_it_was_filled.Goals as goal

pub returns-clause-link : goal.returns-clause-link
returns-clause-link c = λ v z place seen key source target weight x m. link_filled v z place seen key source target
    weight x m

pub returns-clause-replace : goal.returns-clause-replace
returns-clause-replace c = λ v seen key source target weight old x fits m. replace_filled v seen key source target
    weight old x fits m
