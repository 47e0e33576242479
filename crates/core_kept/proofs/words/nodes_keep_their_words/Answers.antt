use Rattle.core_kept.proofs.Contents.{contents}
use Rattle.core_kept.proofs.words.nodes_keep_their_words.Goals as goal

pub returns : goal.returns
returns c = λ sizes z journal kept. contents sizes z journal kept
