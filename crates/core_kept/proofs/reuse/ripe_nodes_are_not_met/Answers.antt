use Rattle.core_kept.proofs.MetWords.{ripe_not_met}
use Rattle.core_kept.proofs.reuse.ripe_nodes_are_not_met.Goals as goal

pub returns : goal.returns
returns c = λ sizes z journal kept caller i x r m. ripe_not_met sizes z journal kept caller i x r m
