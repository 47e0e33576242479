use Rattle.core_worked.proofs.KnownSteps.{may_pop, makes_pop, may_store, makes_store, may_link_vertex}
use Rattle.core_worked.proofs.KnownSteps.{makes_link_vertex, may_mark_vertex, makes_mark_vertex, may_unlink_vertex}
use Rattle.core_worked.proofs.KnownSteps.{makes_unlink_vertex, may_link_edge, makes_link_edge, may_raise, makes_raise}
use Rattle.core_worked.proofs.KnownSteps.{may_mark_edge, makes_mark_edge, may_unlink_edge, makes_unlink_edge}
use Rattle.core_worked.proofs.KnownSteps.{may_announce, makes_announce, may_withdraw, makes_withdraw, may_move}
use Rattle.core_worked.proofs.KnownSteps.{makes_move, may_freeze_head, makes_freeze_head, may_freeze_edge}
use Rattle.core_worked.proofs.KnownSteps.{makes_freeze_edge, may_store_edge, makes_store_edge, may_store_vertex}
use Rattle.core_worked.proofs.KnownSteps.{makes_store_vertex, may_push, makes_push}
use Rattle.core_worked.proofs.ReplacingSteps.{may_replace, makes_replace}
use Rattle.core_worked.proofs.lifts.a_token_may_make_each_step.Goals as goal

pub returns-clause-pop : goal.returns-clause-pop
returns-clause-pop c = (may_pop, makes_pop)

pub returns-clause-store : goal.returns-clause-store
returns-clause-store c = (may_store, makes_store)

pub returns-clause-link_vertex : goal.returns-clause-link_vertex
returns-clause-link_vertex c = (may_link_vertex, makes_link_vertex)

pub returns-clause-mark_vertex : goal.returns-clause-mark_vertex
returns-clause-mark_vertex c = (may_mark_vertex, makes_mark_vertex)

pub returns-clause-unlink_vertex : goal.returns-clause-unlink_vertex
returns-clause-unlink_vertex c = (may_unlink_vertex, makes_unlink_vertex)

pub returns-clause-link_edge : goal.returns-clause-link_edge
returns-clause-link_edge c = (may_link_edge, makes_link_edge)

pub returns-clause-raise : goal.returns-clause-raise
returns-clause-raise c = (may_raise, makes_raise)

pub returns-clause-mark_edge : goal.returns-clause-mark_edge
returns-clause-mark_edge c = (may_mark_edge, makes_mark_edge)

pub returns-clause-replace_edge : goal.returns-clause-replace_edge
returns-clause-replace_edge c = (may_replace, makes_replace)

pub returns-clause-unlink_edge : goal.returns-clause-unlink_edge
returns-clause-unlink_edge c = (may_unlink_edge, makes_unlink_edge)

pub returns-clause-announce : goal.returns-clause-announce
returns-clause-announce c = (may_announce, makes_announce)

pub returns-clause-withdraw : goal.returns-clause-withdraw
returns-clause-withdraw c = (may_withdraw, makes_withdraw)

pub returns-clause-move_on : goal.returns-clause-move_on
returns-clause-move_on c = (may_move, makes_move)

pub returns-clause-freeze_head : goal.returns-clause-freeze_head
returns-clause-freeze_head c = (may_freeze_head, makes_freeze_head)

pub returns-clause-freeze_edge : goal.returns-clause-freeze_edge
returns-clause-freeze_edge c = (may_freeze_edge, makes_freeze_edge)

pub returns-clause-store_edge : goal.returns-clause-store_edge
returns-clause-store_edge c = (may_store_edge, makes_store_edge)

pub returns-clause-store_vertex : goal.returns-clause-store_vertex
returns-clause-store_vertex c = (may_store_vertex, makes_store_vertex)

pub returns-clause-push : goal.returns-clause-push
returns-clause-push c = (may_push, makes_push)
