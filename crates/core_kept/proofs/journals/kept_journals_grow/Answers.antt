use Rattle.std.proofs.Common.{take}
use Rattle.core_journal.proofs.Lists.{prefix_take}
use Rattle.core_kept.proofs.Induction.{kept_snoc, kept_front, allowed_at, past_kept, last_allowed}
use Rattle.core_kept.proofs.journals.kept_journals_grow.Goals as goal

pub returns-clause-opening : goal.returns-clause-opening
returns-clause-opening c = λ sizes. record { steps = tt }

pub returns-clause-next : goal.returns-clause-next
returns-clause-next c = λ sizes journal e kept ok. kept_snoc sizes journal e kept ok

pub returns-clause-front : goal.returns-clause-front
returns-clause-front c = λ sizes front journal p kept. kept_front sizes front journal p kept

pub returns-clause-taken : goal.returns-clause-taken
returns-clause-taken c = λ sizes journal n kept. kept_front sizes (take n journal) journal (prefix_take journal n) kept

pub returns-clause-each : goal.returns-clause-each
returns-clause-each c = λ sizes journal kept p e at. allowed_at sizes journal p e kept at

pub returns-clause-last : goal.returns-clause-last
returns-clause-last c = λ sizes past e kept. (past_kept sizes past e kept, last_allowed sizes past e kept)
