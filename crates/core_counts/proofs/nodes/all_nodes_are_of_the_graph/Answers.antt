use Rattle.core_counts.proofs.AllNodesOfGraph.{few_nodes_of_graph, all_counted, counted_all}
use Rattle.core_counts.proofs.nodes.all_nodes_are_of_the_graph.Goals as goal

pub returns-clause-few : goal.returns-clause-few
returns-clause-few c = λ sizes z journal kept. few_nodes_of_graph sizes z journal kept

pub returns-clause-all : goal.returns-clause-all
returns-clause-all c = λ sizes z journal kept g. all_counted sizes z journal kept g

pub returns-clause-only : goal.returns-clause-only
returns-clause-only c = λ sizes z journal kept is. counted_all sizes z journal kept is
