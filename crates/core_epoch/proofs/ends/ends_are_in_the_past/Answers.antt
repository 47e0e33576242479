use Rattle.core_epoch.proofs.Beside.{ended_kept}
use Rattle.core_epoch.proofs.ends.ends_are_in_the_past.Goals as goal

pub returns : goal.returns
returns c = ended_kept
