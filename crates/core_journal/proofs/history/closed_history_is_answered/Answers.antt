use Rattle.core_journal.proofs.Laws.{history_answered}
use Rattle.core_journal.proofs.history.closed_history_is_answered.Goals as goal

pub returns : goal.returns
returns c = λ sizes journal books r apart h closed. history_answered sizes journal books r apart h closed
