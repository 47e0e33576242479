use Rattle.core_epoch.proofs.Births.{announcements_new, announcements_kept}
use Rattle.core_epoch.proofs.passes.each_step_keeps_the_announcements.Goals as goal

pub returns-clause-opening : goal.returns-clause-opening
returns-clause-opening c = announcements_new

pub returns-clause-step : goal.returns-clause-step
returns-clause-step c = announcements_kept
