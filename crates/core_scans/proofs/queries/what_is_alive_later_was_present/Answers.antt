use Rattle.core_scans.proofs.AliveLaterWasPresent.{present_before}
use Rattle.core_scans.proofs.queries.what_is_alive_later_was_present.Goals as goal

pub returns : goal.returns
returns c = present_before
