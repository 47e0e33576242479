use Rattle.std.proofs.Common.{◌≡◌, ◌≢◌, true}
use Rattle.core_stretches.proofs.MakesTell.{makes_later, makes_goes, makes_own, makes_leaves, makes_counts}
use Rattle.core_stretches.proofs.stretches.own_events_tell.Goals as goal

pub returns-clause-later : goal.returns-clause-later
returns-clause-later c = makes_later

pub returns-clause-goes : goal.returns-clause-goes
returns-clause-goes c = makes_goes

pub returns-clause-each : goal.returns-clause-each
returns-clause-each c = λ test v w own. makes_own (λ e. test e ≡ true) v w own

pub returns-clause-elsewhere : goal.returns-clause-elsewhere
returns-clause-elsewhere c = λ place v w own. makes_own (λ e. e.place ≢ place) v w own

pub returns-clause-leaves : goal.returns-clause-leaves
returns-clause-leaves c = makes_leaves

pub returns-clause-counts : goal.returns-clause-counts
returns-clause-counts c = makes_counts
