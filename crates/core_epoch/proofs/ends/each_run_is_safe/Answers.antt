use Rattle.core_epoch.proofs.Beside.{run_is_safe}
use Rattle.core_epoch.proofs.ends.each_run_is_safe.Goals as goal

pub returns : goal.returns
returns c = run_is_safe
