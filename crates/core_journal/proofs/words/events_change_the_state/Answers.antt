use Rattle.core_journal.proofs.States.{state-nil, state-snoc, count-length}
use Rattle.core_journal.proofs.words.events_change_the_state.Goals as goal

pub returns-clause-opening : goal.returns-clause-opening
returns-clause-opening c = λ sizes. state-nil sizes

pub returns-clause-next : goal.returns-clause-next
returns-clause-next c = λ sizes journal e. state-snoc sizes journal e

pub returns-clause-count : goal.returns-clause-count
returns-clause-count c = λ sizes journal. count-length sizes journal
