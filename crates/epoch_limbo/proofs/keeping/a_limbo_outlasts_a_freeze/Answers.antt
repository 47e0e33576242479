use Rattle.epoch_limbo.proofs.LimboStays.{limbo_but, limbo_to_end}
use Rattle.epoch_limbo.proofs.keeping.a_limbo_outlasts_a_freeze.Goals as goal

pub returns-clause-begins : goal.returns-clause-begins
returns-clause-begins c = limbo_but

pub returns-clause-ends : goal.returns-clause-ends
returns-clause-ends c = limbo_to_end
