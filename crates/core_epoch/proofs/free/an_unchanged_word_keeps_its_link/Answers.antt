use Rattle.core_epoch.proofs.FreeList.{unchanged_kept, seen_again}
use Rattle.core_epoch.proofs.free.an_unchanged_word_keeps_its_link.Goals as goal

pub returns-clause-step : goal.returns-clause-step
returns-clause-step c = λ nodes seen next old new z there f u s. unchanged_kept nodes seen next z there old new f u s

pub returns-clause-again : goal.returns-clause-again
returns-clause-again c = seen_again
