use Rattle.core_rule.proofs.AlikeViews.{may_pop_free_alike, may_store_private_alike, may_link_vertex_alike}
use Rattle.core_rule.proofs.AlikeViews.{may_mark_vertex_alike, may_unlink_vertex_alike, may_link_edge_alike}
use Rattle.core_rule.proofs.AlikeViews.{may_raise_alike, may_mark_edge_alike, may_replace_edge_alike}
use Rattle.core_rule.proofs.AlikeViews.{may_unlink_edge_alike, may_announce_alike, may_withdraw_alike}
use Rattle.core_rule.proofs.AlikeViews.{may_move_epoch_alike, may_freeze_head_alike, may_freeze_edge_alike}
use Rattle.core_rule.proofs.AlikeViews.{may_store_free_alike, may_push_free_alike}
use Rattle.core_rule.proofs.stretches.conditions_of_a_front_are_alike.Goals as goal

pub returns-clause-may_pop_free : goal.returns-clause-may_pop_free
returns-clause-may_pop_free c = λ v w a seen next m. may_pop_free_alike v w a seen next m

pub returns-clause-may_store_private : goal.returns-clause-may_store_private
returns-clause-may_store_private c = λ v w a x field word m. may_store_private_alike v w a x field word m

pub returns-clause-may_link_vertex : goal.returns-clause-may_link_vertex
returns-clause-may_link_vertex c = λ v w a place seen key x m. may_link_vertex_alike v w a place seen key x m

pub returns-clause-may_mark_vertex : goal.returns-clause-may_mark_vertex
returns-clause-may_mark_vertex c = λ v w a x m. may_mark_vertex_alike v w a x m

pub returns-clause-may_unlink_vertex : goal.returns-clause-may_unlink_vertex
returns-clause-may_unlink_vertex c = λ v w a place seen next x m. may_unlink_vertex_alike v w a place seen next x m

pub returns-clause-may_link_edge : goal.returns-clause-may_link_edge
returns-clause-may_link_edge c = λ v w a place seen key source target weight x m. may_link_edge_alike v w a place seen
    key source target weight x m

pub returns-clause-may_raise : goal.returns-clause-may_raise
returns-clause-may_raise c = λ v w a x m. may_raise_alike v w a x m

pub returns-clause-may_mark_edge : goal.returns-clause-may_mark_edge
returns-clause-may_mark_edge c = λ v w a source x m. may_mark_edge_alike v w a source x m

pub returns-clause-may_replace_edge : goal.returns-clause-may_replace_edge
returns-clause-may_replace_edge c = λ v w a seen key source target weight old x m. may_replace_edge_alike v w a seen key
    source target weight old x m

pub returns-clause-may_unlink_edge : goal.returns-clause-may_unlink_edge
returns-clause-may_unlink_edge c = λ v w a place seen next source x m. may_unlink_edge_alike v w a place seen next
    source x m

pub returns-clause-may_announce : goal.returns-clause-may_announce
returns-clause-may_announce c = λ v w a epoch m. may_announce_alike v w a epoch m

pub returns-clause-may_withdraw : goal.returns-clause-may_withdraw
returns-clause-may_withdraw c = λ v w a m. may_withdraw_alike v w a m

pub returns-clause-may_move_epoch : goal.returns-clause-may_move_epoch
returns-clause-may_move_epoch c = λ v w a seen m. may_move_epoch_alike v w a seen m

pub returns-clause-may_freeze_head : goal.returns-clause-may_freeze_head
returns-clause-may_freeze_head c = λ v w a x m. may_freeze_head_alike v w a x m

pub returns-clause-may_freeze_edge : goal.returns-clause-may_freeze_edge
returns-clause-may_freeze_edge c = λ v w a source place x m. may_freeze_edge_alike v w a source place x m

pub returns-clause-may_store_free : goal.returns-clause-may_store_free
returns-clause-may_store_free c = λ v w a next x m. may_store_free_alike v w a next x m

pub returns-clause-may_push_free : goal.returns-clause-may_push_free
returns-clause-may_push_free c = λ v w a seen x m. may_push_free_alike v w a seen x m
