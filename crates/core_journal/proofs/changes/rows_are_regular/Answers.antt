use Rattle.core_journal.proofs.Regular.{new_vertex_regular, removed_vertex_regular, new_edge_regular, no_edge_regular}
use Rattle.core_journal.proofs.Regular.{removed_edge_regular, replaced_edge_regular, hidden_replaced_regular}
use Rattle.core_journal.proofs.Regular.{hidden_regular, idle_regular, regular_snoc}
use Rattle.core_journal.proofs.changes.rows_are_regular.Goals as goal

pub returns-clause-link_vertex : goal.returns-clause-link_vertex
returns-clause-link_vertex c = λ past e n absent. new_vertex_regular past e n absent

pub returns-clause-mark_vertex : goal.returns-clause-mark_vertex
returns-clause-mark_vertex c = λ past e key r. removed_vertex_regular past e key r

pub returns-clause-link_edge : goal.returns-clause-link_edge
returns-clause-link_edge c = λ past e a b n s t absent. new_edge_regular past e a b n s t absent

pub returns-clause-link_none : goal.returns-clause-link_none
returns-clause-link_none c = λ past e n gone. no_edge_regular past e n gone

pub returns-clause-mark_edge : goal.returns-clause-mark_edge
returns-clause-mark_edge c = λ past e a b r. removed_edge_regular past e a b r

pub returns-clause-mark_none : goal.returns-clause-mark_none
returns-clause-mark_none c = λ past e cuts hidden. hidden_regular past e cuts hidden

pub returns-clause-others : goal.returns-clause-others
returns-clause-others c = λ past e idle. idle_regular past e idle

pub returns-clause-next : goal.returns-clause-next
returns-clause-next c = λ past e r k. regular_snoc past e r k

pub returns-clause-replace_edge : goal.returns-clause-replace_edge
returns-clause-replace_edge c = λ past e a b r only ne. replaced_edge_regular past e a b r only ne

pub returns-clause-replace_none : goal.returns-clause-replace_none
returns-clause-replace_none c = λ past e n hidden none. hidden_replaced_regular past e n hidden none
