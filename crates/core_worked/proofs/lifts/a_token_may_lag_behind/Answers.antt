use Rattle.core_worked.proofs.TwoCallersKept.{among_mark, makes_mark, among_unlink, makes_unlink, among_freeze}
use Rattle.core_worked.proofs.TwoCallersKept.{makes_freeze, among_link, makes_link}
use Rattle.core_worked.proofs.lifts.a_token_may_lag_behind.Goals as goal

pub returns-clause-mark_vertex : goal.returns-clause-mark_vertex
returns-clause-mark_vertex c = (among_mark, makes_mark)

pub returns-clause-unlink_vertex : goal.returns-clause-unlink_vertex
returns-clause-unlink_vertex c = (among_unlink, makes_unlink)

pub returns-clause-freeze_head : goal.returns-clause-freeze_head
returns-clause-freeze_head c = (among_freeze, makes_freeze)

pub returns-clause-link_edge : goal.returns-clause-link_edge
returns-clause-link_edge c = (among_link, makes_link)
