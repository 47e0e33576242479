use Rattle.core_kept.proofs.LinkedOnce.{linked_once}
use Rattle.core_kept.proofs.words.lives_are_linked_once.Goals as goal

pub returns : goal.returns
returns c = λ sizes z journal kept. linked_once sizes z journal kept
