use Rattle.core_kept.proofs.Named.{named}
use Rattle.core_kept.proofs.words.nodes_tell_their_lives.Goals as goal

pub returns : goal.returns
returns c = λ sizes z journal kept. named sizes z journal kept
