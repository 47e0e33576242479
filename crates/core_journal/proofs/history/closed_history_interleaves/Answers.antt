use Rattle.core_journal.proofs.Laws.{history_interleaves}
use Rattle.core_journal.proofs.history.closed_history_interleaves.Goals as goal

pub returns : goal.returns
returns c = λ sizes journal books rows replies r apart h closed long has each. history_interleaves sizes journal books
    rows replies r apart h closed long has each
