use Rattle.core_worked.proofs.Beside.{may_link_before, makes_link_before, may_edge_before, makes_edge_before}
use Rattle.core_worked.proofs.Beside.{may_unlink_behind, makes_unlink_behind, may_edge_behind, makes_edge_behind}
use Rattle.core_worked.proofs.Beside.{may_freeze_behind, makes_freeze_behind}
use Rattle.core_worked.proofs.lifts.a_token_may_step_beside_others.Goals as goal

pub returns-clause-vertex_before : goal.returns-clause-vertex_before
returns-clause-vertex_before c = (may_link_before, makes_link_before)

pub returns-clause-edge_before : goal.returns-clause-edge_before
returns-clause-edge_before c = (may_edge_before, makes_edge_before)

pub returns-clause-unlink_behind : goal.returns-clause-unlink_behind
returns-clause-unlink_behind c = (may_unlink_behind, makes_unlink_behind)

pub returns-clause-edge_behind : goal.returns-clause-edge_behind
returns-clause-edge_behind c = (may_edge_behind, makes_edge_behind)

pub returns-clause-freeze_behind : goal.returns-clause-freeze_behind
returns-clause-freeze_behind c = (may_freeze_behind, makes_freeze_behind)
