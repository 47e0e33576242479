use Rattle.core_lists.proofs.GraphOfLives.{graph_is, weighs}
use Rattle.core_lists.proofs.graph.a_kept_journal_has_a_graph.Goals as goal

pub returns-clause-graph : goal.returns-clause-graph
returns-clause-graph c = λ sizes z journal kept. graph_is sizes z journal kept

pub returns-clause-weight : goal.returns-clause-weight
returns-clause-weight c = λ sizes z journal kept x link is uncut. weighs sizes z journal kept x link is uncut
