use Rattle.core_epoch.proofs.Births.{near_new, near_kept}
use Rattle.core_epoch.proofs.passes.passes_stay_near.Goals as goal

pub returns-clause-opening : goal.returns-clause-opening
returns-clause-opening c = near_new

pub returns-clause-step : goal.returns-clause-step
returns-clause-step c = near_kept
