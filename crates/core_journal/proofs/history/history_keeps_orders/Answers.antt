use Rattle.core_journal.proofs.Laws.{history_orders}
use Rattle.core_journal.proofs.history.history_keeps_orders.Goals as goal

pub returns : goal.returns
returns c = λ sizes journal books r apart h. history_orders sizes journal books r apart h
