use Rattle.core_worked.proofs.WorkedLists.{leads_2, told_2, word_2, older_2, lower_2, lower_raised, source_unstored}
use Rattle.core_worked.proofs.WorkedLists.{counter_higher, edges_of_nodes, two_links, two_few}
use Rattle.core_worked.proofs.laws_lists.worked_replaced_edges_are_told.Goals as goal

pub returns-clause-same_key : goal.returns-clause-same_key
returns-clause-same_key c = leads_2

pub returns-clause-told : goal.returns-clause-told
returns-clause-told c = told_2

pub returns-clause-word : goal.returns-clause-word
returns-clause-word c = word_2

pub returns-clause-older : goal.returns-clause-older
returns-clause-older c = older_2

pub returns-clause-lower : goal.returns-clause-lower
returns-clause-lower c = lower_2

pub returns-clause-raised : goal.returns-clause-raised
returns-clause-raised c = lower_raised

pub returns-clause-unstored : goal.returns-clause-unstored
returns-clause-unstored c = source_unstored

pub returns-clause-rises : goal.returns-clause-rises
returns-clause-rises c = counter_higher

pub returns-clause-caller : goal.returns-clause-caller
returns-clause-caller c = edges_of_nodes

pub returns-clause-links : goal.returns-clause-links
returns-clause-links c = two_links

pub returns-clause-all : goal.returns-clause-all
returns-clause-all c = two_few
