use Rattle.core_kept.proofs.PastLives.{lives}
use Rattle.core_kept.proofs.words.events_are_of_past_lives.Goals as goal

pub returns : goal.returns
returns c = λ sizes z journal kept. lives sizes z journal kept
