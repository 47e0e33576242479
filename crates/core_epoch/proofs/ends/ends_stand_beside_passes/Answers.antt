use Rattle.core_epoch.proofs.Beside.{ordered_new, ordered_kept}
use Rattle.core_epoch.proofs.ends.ends_stand_beside_passes.Goals as goal

pub returns-clause-opening : goal.returns-clause-opening
returns-clause-opening c = ordered_new

pub returns-clause-step : goal.returns-clause-step
returns-clause-step c = ordered_kept
