use Rattle.epoch_limbo.proofs.LimboStays.{limbo_of_none, limbo_still, limbo_still_by_kind}
use Rattle.epoch_limbo.proofs.keeping.limbos_stay.Goals as goal

pub returns-clause-empty : goal.returns-clause-empty
returns-clause-empty c = limbo_of_none

pub returns-clause-apart : goal.returns-clause-apart
returns-clause-apart c = limbo_still

pub returns-clause-by_kind : goal.returns-clause-by_kind
returns-clause-by_kind c = limbo_still_by_kind
