use Rattle.core_kept.proofs.Announcements.{announcements}
use Rattle.core_kept.proofs.words.announcements_tell_passes.Goals as goal

pub returns : goal.returns
returns c = λ sizes journal kept. announcements sizes journal kept
