use Rattle.core_lists.proofs.SpentWordsLead.{spent_links}
use Rattle.core_lists.proofs.walks.spent_nodes_lead_no_further_back.Goals as goal

pub returns : goal.returns
returns c = λ sizes z journal kept. spent_links sizes z journal kept
