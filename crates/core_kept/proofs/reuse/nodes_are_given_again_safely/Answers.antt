use Rattle.core_kept.proofs.SafeReuse.{reuses_safely}
use Rattle.core_kept.proofs.reuse.nodes_are_given_again_safely.Goals as goal

pub returns : goal.returns
returns c = λ sizes z journal kept. reuses_safely sizes z journal kept
