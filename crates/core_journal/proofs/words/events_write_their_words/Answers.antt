use Rattle.core_journal.proofs.MachineWords.{word_first, word_here, word_else, length-machine}
use Rattle.core_journal.proofs.words.events_write_their_words.Goals as goal

pub returns-clause-opening : goal.returns-clause-opening
returns-clause-opening c = λ sizes p h. word_first sizes p h

pub returns-clause-written : goal.returns-clause-written
returns-clause-written c = λ sizes journal e h. word_here sizes journal e h

pub returns-clause-kept : goal.returns-clause-kept
returns-clause-kept c = λ sizes journal e place h. word_else sizes journal e place h

pub returns-clause-count : goal.returns-clause-count
returns-clause-count c = λ sizes journal. length-machine sizes journal
