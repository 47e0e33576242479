use Rattle.core_kept.proofs.FreeList.{free_list, first_leads, pop_again}
use Rattle.core_kept.proofs.LinkWords.{taken}
use Rattle.core_kept.proofs.words.free_list_is_exact.Goals as goal

pub returns-clause-list : goal.returns-clause-list
returns-clause-list c = λ sizes z journal kept. free_list sizes z journal kept

pub returns-clause-free : goal.returns-clause-free
returns-clause-free c = λ sizes z past e kept ok. (taken sizes z past e kept ok).free

pub returns-clause-next_life : goal.returns-clause-next_life
returns-clause-next_life c = λ sizes z past e kept ok. (taken sizes z past e kept ok).tag

pub returns-clause-again : goal.returns-clause-again
returns-clause-again c = λ sizes z seen next there first second journal p q kept was link is.
    (pop_again sizes z seen next there first second journal p q kept was link is).0

pub returns-clause-first : goal.returns-clause-first
returns-clause-first c = λ sizes z journal kept. first_leads sizes z journal kept
