use Rattle.core_lists.proofs.FewEdges.{edges_paid, edges_are_links, edges_few}
use Rattle.core_lists.proofs.raises.few_edges_are_linked.Goals as goal

pub returns-clause-caller : goal.returns-clause-caller
returns-clause-caller c = λ sizes journal kept caller. edges_paid sizes journal kept caller

pub returns-clause-all : goal.returns-clause-all
returns-clause-all c = λ sizes z journal kept xs apart linked. edges_few sizes z journal kept xs apart linked

pub returns-clause-links : goal.returns-clause-links
returns-clause-links c = λ journal xs apart linked. edges_are_links journal xs apart linked
