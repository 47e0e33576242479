use Rattle.core_epoch.proofs.Births.{epoch_runs}
use Rattle.core_epoch.proofs.passes.the_epoch_only_rises.Goals as goal

pub returns : goal.returns
returns c = epoch_runs
