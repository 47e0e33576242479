use Rattle.core_worked.proofs.WorkedAlike.{pop_too, store_too, link_vertex_too, mark_vertex_too, link_edge_too}
use Rattle.core_worked.proofs.WorkedAlike.{raise_too, mark_edge_too, replace_too, unlink_edge_too, announce_too}
use Rattle.core_worked.proofs.WorkedAlike.{withdraw_too, move_too, freeze_head_too, freeze_edge_too, store_free_too}
use Rattle.core_worked.proofs.WorkedAlike.{push_too}
use Rattle.core_worked.proofs.laws_alike.worked_conditions_are_alike.Goals as goal

pub returns-clause-pop : goal.returns-clause-pop
returns-clause-pop c = pop_too

pub returns-clause-store : goal.returns-clause-store
returns-clause-store c = store_too

pub returns-clause-link_vertex : goal.returns-clause-link_vertex
returns-clause-link_vertex c = link_vertex_too

pub returns-clause-mark_vertex : goal.returns-clause-mark_vertex
returns-clause-mark_vertex c = mark_vertex_too

pub returns-clause-link_edge : goal.returns-clause-link_edge
returns-clause-link_edge c = link_edge_too

pub returns-clause-raise : goal.returns-clause-raise
returns-clause-raise c = raise_too

pub returns-clause-mark_edge : goal.returns-clause-mark_edge
returns-clause-mark_edge c = mark_edge_too

pub returns-clause-replace_edge : goal.returns-clause-replace_edge
returns-clause-replace_edge c = replace_too

pub returns-clause-unlink_edge : goal.returns-clause-unlink_edge
returns-clause-unlink_edge c = unlink_edge_too

pub returns-clause-announce : goal.returns-clause-announce
returns-clause-announce c = announce_too

pub returns-clause-withdraw : goal.returns-clause-withdraw
returns-clause-withdraw c = withdraw_too

pub returns-clause-move_on : goal.returns-clause-move_on
returns-clause-move_on c = move_too

pub returns-clause-freeze_head : goal.returns-clause-freeze_head
returns-clause-freeze_head c = freeze_head_too

pub returns-clause-freeze_edge : goal.returns-clause-freeze_edge
returns-clause-freeze_edge c = freeze_edge_too

pub returns-clause-store_free : goal.returns-clause-store_free
returns-clause-store_free c = store_free_too

pub returns-clause-push : goal.returns-clause-push
returns-clause-push c = push_too
