use Rattle.core_journal.proofs.GraphRows.{new_vertex_graph, removed_vertex_graph, new_edge_graph, no_edge_graph}
use Rattle.core_journal.proofs.GraphRows.{removed_edge_graph, hidden_graph, replaced_edge_graph, hidden_replaced_graph}
use Rattle.core_journal.proofs.GraphRows.{frozen_graph, idle_graph}
use Rattle.core_journal.proofs.changes.kinds_change_the_graph.Goals as goal

pub returns-clause-link_vertex : goal.returns-clause-link_vertex
returns-clause-link_vertex c = λ past e n. new_vertex_graph past e n

pub returns-clause-mark_vertex : goal.returns-clause-mark_vertex
returns-clause-mark_vertex c = λ past e key r. removed_vertex_graph past e key r

pub returns-clause-link_edge : goal.returns-clause-link_edge
returns-clause-link_edge c = λ past e a b n s t. new_edge_graph past e a b n s t

pub returns-clause-link_none : goal.returns-clause-link_none
returns-clause-link_none c = λ past e n gone. no_edge_graph past e n gone

pub returns-clause-mark_edge : goal.returns-clause-mark_edge
returns-clause-mark_edge c = λ past e a b r. removed_edge_graph past e a b r

pub returns-clause-mark_none : goal.returns-clause-mark_none
returns-clause-mark_none c = λ past e cuts hidden. hidden_graph past e cuts hidden

pub returns-clause-freeze_edge : goal.returns-clause-freeze_edge
returns-clause-freeze_edge c = λ past e f. frozen_graph past e f

pub returns-clause-others : goal.returns-clause-others
returns-clause-others c = λ past e idle. idle_graph past e idle

pub returns-clause-replace_edge : goal.returns-clause-replace_edge
returns-clause-replace_edge c = λ past e a b r. replaced_edge_graph past e a b r

pub returns-clause-replace_none : goal.returns-clause-replace_none
returns-clause-replace_none c = λ past e n hidden none. hidden_replaced_graph past e n hidden none
