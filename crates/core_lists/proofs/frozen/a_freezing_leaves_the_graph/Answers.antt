use Rattle.core_lists.proofs.EffectOfKinds.{frozen_leaves}
use Rattle.core_lists.proofs.frozen.a_freezing_leaves_the_graph.Goals as goal

pub returns : goal.returns
returns c = λ sizes z past e kept is. frozen_leaves sizes z past e kept is
