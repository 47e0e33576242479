use Rattle.core_journal.proofs.FirstToPass.{first_passing, one_first}
use Rattle.core_journal.proofs.passing.some_event_is_first.Goals as goal

pub returns-clause-found : goal.returns-clause-found
returns-clause-found c = λ test journal start p e since at h. first_passing test journal start p e since at h

pub returns-clause-one : goal.returns-clause-one
returns-clause-one c = λ test journal start m n f g. one_first test journal start m n f g
