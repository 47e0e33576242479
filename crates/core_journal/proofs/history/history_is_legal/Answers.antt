use Rattle.core_journal.proofs.Laws.{history_legal}
use Rattle.std.proofs.Common.{[], ◌∷◌}
use Rattle.core_journal.proofs.history.history_is_legal.Goals as goal

pub returns-clause-all : goal.returns-clause-all
returns-clause-all c = λ sizes journal books r apart h. history_legal sizes journal books r apart h

pub returns-clause-one : goal.returns-clause-one
returns-clause-one c = λ sizes front book r h. history_legal sizes front (book ∷ []) r (tt, tt) (h, tt)
