use Rattle.core_scans.proofs.HeldIsThePart.{inside}
use Rattle.core_scans.proofs.collect.what_is_collected_is_inside.Goals as goal

pub returns : goal.returns
returns c = inside
