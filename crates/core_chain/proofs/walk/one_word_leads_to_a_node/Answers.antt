-- A node has one predecessor.
use Rattle.core_chain.proofs.Orders.{one_leads}
use Rattle.core_chain.proofs.Walks.{leader_of}
use Rattle.core_chain.proofs.walk.one_word_leads_to_a_node.Goals as goal

pub returns-clause-at_most_one : goal.returns-clause-at_most_one
returns-clause-at_most_one c = one_leads

pub returns-clause-some : goal.returns-clause-some
returns-clause-some c = leader_of
