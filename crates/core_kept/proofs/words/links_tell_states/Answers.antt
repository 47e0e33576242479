use Rattle.core_kept.proofs.LinkWords.{link_words, unmarked_linked, used_link}
use Rattle.core_kept.proofs.words.links_tell_states.Goals as goal

pub returns-clause-words : goal.returns-clause-words
returns-clause-words c = λ sizes z journal kept. link_words sizes z journal kept

pub returns-clause-linked : goal.returns-clause-linked
returns-clause-linked c = λ sizes z journal kept x t free fresh live. unmarked_linked sizes z journal kept x t free
    fresh live

pub returns-clause-life : goal.returns-clause-life
returns-clause-life c = λ sizes z journal kept x t used. used_link sizes z journal kept x t used
