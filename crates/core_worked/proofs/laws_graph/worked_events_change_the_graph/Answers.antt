use Rattle.core_worked.proofs.WorkedGraph.{replacing_is_regular, hidden_is_regular, none_replaced_then}
use Rattle.core_worked.proofs.WorkedGraph.{none_frozen_then, vertex_linked_then, vertex_marked_then, edge_linked_then}
use Rattle.core_worked.proofs.WorkedGraph.{none_linked_then, edge_marked_then, none_marked_then, edge_replaced_then}
use Rattle.core_worked.proofs.WorkedGraph.{unlinked_then, mark_is_regular, removal_is_regular, freezing_is_regular}
use Rattle.core_worked.proofs.laws_graph.worked_events_change_the_graph.Goals as goal

pub returns-clause-link_vertex : goal.returns-clause-link_vertex
returns-clause-link_vertex c = vertex_linked_then

pub returns-clause-mark_vertex : goal.returns-clause-mark_vertex
returns-clause-mark_vertex c = vertex_marked_then

pub returns-clause-link_edge : goal.returns-clause-link_edge
returns-clause-link_edge c = edge_linked_then

pub returns-clause-link_none : goal.returns-clause-link_none
returns-clause-link_none c = none_linked_then

pub returns-clause-mark_edge : goal.returns-clause-mark_edge
returns-clause-mark_edge c = edge_marked_then

pub returns-clause-mark_none : goal.returns-clause-mark_none
returns-clause-mark_none c = none_marked_then

pub returns-clause-replace_edge : goal.returns-clause-replace_edge
returns-clause-replace_edge c = edge_replaced_then

pub returns-clause-others : goal.returns-clause-others
returns-clause-others c = unlinked_then

pub returns-clause-regular_vertex : goal.returns-clause-regular_vertex
returns-clause-regular_vertex c = mark_is_regular

pub returns-clause-regular_edge : goal.returns-clause-regular_edge
returns-clause-regular_edge c = removal_is_regular

pub returns-clause-regular_freezing : goal.returns-clause-regular_freezing
returns-clause-regular_freezing c = freezing_is_regular

pub returns-clause-replace_none : goal.returns-clause-replace_none
returns-clause-replace_none c = none_replaced_then

pub returns-clause-freeze_edge : goal.returns-clause-freeze_edge
returns-clause-freeze_edge c = none_frozen_then

pub returns-clause-regular_replacing : goal.returns-clause-regular_replacing
returns-clause-regular_replacing c = replacing_is_regular

pub returns-clause-regular_hidden : goal.returns-clause-regular_hidden
returns-clause-regular_hidden c = hidden_is_regular
