use Rattle.core_kept.proofs.FirstWords.{numbers}
use Rattle.core_kept.proofs.Announcements.{epoch_word_rises}
use Rattle.core_kept.proofs.words.first_words_count.Goals as goal

pub returns-clause-numbers : goal.returns-clause-numbers
returns-clause-numbers c = λ sizes journal kept. numbers sizes journal kept

pub returns-clause-epoch_rises : goal.returns-clause-epoch_rises
returns-clause-epoch_rises c = λ sizes front journal p kept. epoch_word_rises sizes front journal p kept
