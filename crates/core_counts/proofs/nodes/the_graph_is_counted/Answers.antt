use Rattle.core_counts.proofs.GraphNodes.{keys_are, pairs_are}
use Rattle.core_counts.proofs.nodes.the_graph_is_counted.Goals as goal

pub returns-clause-keys : goal.returns-clause-keys
returns-clause-keys c = λ sizes z journal kept. keys_are sizes z journal kept

pub returns-clause-pairs : goal.returns-clause-pairs
returns-clause-pairs c = λ sizes z journal kept. pairs_are sizes z journal kept
