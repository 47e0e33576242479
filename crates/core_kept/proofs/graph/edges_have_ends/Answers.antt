use Rattle.core_kept.proofs.EdgeEnds.{ends_linked}
use Rattle.core_kept.proofs.EdgeEndsBefore.{ends_before}
use Rattle.core_kept.proofs.graph.edges_have_ends.Goals as goal

pub returns-clause-keys : goal.returns-clause-keys
returns-clause-keys c = λ sizes z journal kept. ends_linked sizes z journal kept

pub returns-clause-before : goal.returns-clause-before
returns-clause-before c = λ sizes z journal kept k link at is. ends_before sizes z journal kept k link at is
