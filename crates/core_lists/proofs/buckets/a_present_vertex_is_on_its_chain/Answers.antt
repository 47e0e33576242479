use Rattle.core_lists.proofs.OneVertexOfKey.{present_in, present_live}
use Rattle.core_lists.proofs.buckets.a_present_vertex_is_on_its_chain.Goals as goal

pub returns-clause-bucket : goal.returns-clause-bucket
returns-clause-bucket c = λ sizes z journal kept x k h. present_in sizes z journal kept x k h

pub returns-clause-linked : goal.returns-clause-linked
returns-clause-linked c = λ sizes z journal kept x k h. let v = present_live sizes z journal kept x k h in record
    { linked = v.linked; vertex = v.vertex }
