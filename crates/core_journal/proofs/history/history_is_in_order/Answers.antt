use Rattle.core_journal.proofs.Laws.{history_placed}
use Rattle.core_journal.proofs.Sorted.{placed_in_order}
use Rattle.core_journal.proofs.Standing.{all_stand, running_stands}
use Rattle.core_journal.specs.History.{turns}
use Rattle.core_journal.proofs.history.history_is_in_order.Goals as goal

pub returns-clause-stands : goal.returns-clause-stands
returns-clause-stands c = λ journal books. all_stand (turns journal) books

pub returns-clause-running : goal.returns-clause-running
returns-clause-running c = λ journal books p t c at is alone. running_stands (turns journal) books p t c at is alone

pub returns-clause-items : goal.returns-clause-items
returns-clause-items c = λ journal books. history_placed journal books

pub returns-clause-order : goal.returns-clause-order
returns-clause-order c = λ journal books rise. placed_in_order 0 (turns journal) books rise
