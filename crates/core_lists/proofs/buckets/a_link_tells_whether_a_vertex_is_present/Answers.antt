use Rattle.core_lists.proofs.LinkTellsPresence.{alive, over, key_there, link_there}
use Rattle.core_lists.proofs.buckets.a_link_tells_whether_a_vertex_is_present.Goals as goal

pub returns-clause-present : goal.returns-clause-present
returns-clause-present c = λ sizes z journal kept x k has tag live. alive sizes z journal kept x k has tag live

pub returns-clause-removed : goal.returns-clause-removed
returns-clause-removed c = λ sizes z journal kept x k has other. over sizes z journal kept x k has other

pub returns-clause-vertex_there : goal.returns-clause-vertex_there
returns-clause-vertex_there c = λ sizes journal kept x k has. key_there sizes journal kept x k has

pub returns-clause-edge_there : goal.returns-clause-edge_there
returns-clause-edge_there c = λ sizes journal kept x link is. link_there sizes journal kept x link is
