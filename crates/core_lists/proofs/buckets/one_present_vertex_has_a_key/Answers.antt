use Rattle.core_lists.proofs.OneVertexOfKey.{one_present}
use Rattle.core_lists.proofs.buckets.one_present_vertex_has_a_key.Goals as goal

pub returns : goal.returns
returns c = λ sizes z journal kept x y k h g. one_present sizes z journal kept x y k h g
