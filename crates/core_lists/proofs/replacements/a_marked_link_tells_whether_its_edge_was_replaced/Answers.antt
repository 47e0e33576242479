use Rattle.core_lists.proofs.MarkedWordsLead.{linked_reach, next_reach}
use Rattle.core_lists.proofs.LinksTellReplaced.{told, old_leads, old_word, same_key_marked}
use Rattle.core_lists.proofs.replacements.a_marked_link_tells_whether_its_edge_was_replaced.Goals as goal

pub returns-clause-told : goal.returns-clause-told
returns-clause-told c = λ sizes z journal kept x there tag edge r d. told sizes z journal kept x there tag r d edge

pub returns-clause-same_key : goal.returns-clause-same_key
returns-clause-same_key c = λ sizes z journal kept x there r some same. same_key_marked sizes z journal kept x there r
    some same

pub returns-clause-leads : goal.returns-clause-leads
returns-clause-leads c = λ sizes z journal kept x new tag r b. old_leads sizes z journal kept x new tag r b

pub returns-clause-word : goal.returns-clause-word
returns-clause-word c = λ sizes z journal kept x new tag unstored b. old_word sizes z journal kept x new tag unstored b

pub returns-clause-linked : goal.returns-clause-linked
returns-clause-linked c = λ sizes z journal kept x there v. linked_reach sizes z journal kept x there v

pub returns-clause-next : goal.returns-clause-next
returns-clause-next c = λ sizes z journal kept x there r some. next_reach sizes z journal kept x there r some
