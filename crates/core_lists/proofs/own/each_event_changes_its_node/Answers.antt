use Rattle.core_lists.proofs.EventKeepsRest.{written, event_life, node_taken, node_filled, vertex_joined, edge_joined}
use Rattle.core_lists.proofs.EventKeepsRest.{edge_replaced, vertex_spent, edge_spent, link_stored, pass_opened}
use Rattle.core_lists.proofs.EventKeepsRest.{pass_closed}
use Rattle.core_lists.proofs.own.each_event_changes_its_node.Goals as goal

pub returns-clause-written : goal.returns-clause-written
returns-clause-written c = λ sizes past e kept. written sizes past e kept

pub returns-clause-life : goal.returns-clause-life
returns-clause-life c = λ sizes z past e kept there. event_life sizes past e kept z there

pub returns-clause-taken : goal.returns-clause-taken
returns-clause-taken c = λ sizes past e kept is. node_taken sizes past e kept is

pub returns-clause-filled : goal.returns-clause-filled
returns-clause-filled c = λ sizes past e kept is x. node_filled sizes past e kept is x

pub returns-clause-vertex : goal.returns-clause-vertex
returns-clause-vertex c = λ sizes past e kept is. vertex_joined sizes past e kept is

pub returns-clause-edge : goal.returns-clause-edge
returns-clause-edge c = λ sizes past e kept is. edge_joined sizes past e kept is

pub returns-clause-replaced : goal.returns-clause-replaced
returns-clause-replaced c = λ sizes z past e kept is. edge_replaced sizes past e kept z is

pub returns-clause-vertex_spent : goal.returns-clause-vertex_spent
returns-clause-vertex_spent c = λ sizes z past e kept is. vertex_spent sizes past e kept z is

pub returns-clause-edge_spent : goal.returns-clause-edge_spent
returns-clause-edge_spent c = λ sizes past e kept is. edge_spent sizes past e kept is

pub returns-clause-stored : goal.returns-clause-stored
returns-clause-stored c = λ sizes past e kept is. link_stored sizes past e kept is

pub returns-clause-announced : goal.returns-clause-announced
returns-clause-announced c = λ sizes past e kept is. pass_opened sizes past e kept is

pub returns-clause-withdrawn : goal.returns-clause-withdrawn
returns-clause-withdrawn c = λ sizes past e kept is. pass_closed sizes past e kept is
