use Rattle.core_rule.proofs.UnlinkLifts.{lift_unlink_vertex}
use Rattle.core_rule.proofs.VertexLifts.{lift_link_vertex, lift_mark_vertex}
use Rattle.core_rule.proofs.lifts.steps_on_vertices_are_allowed.Goals as goal

pub returns-clause-link : goal.returns-clause-link
returns-clause-link c = λ v z place seen key x m journal r is. lift_link_vertex v z journal r place seen key x m is

pub returns-clause-mark : goal.returns-clause-mark
returns-clause-mark c = λ v z x m journal r live. lift_mark_vertex v z journal r x m live

pub returns-clause-unlink : goal.returns-clause-unlink
returns-clause-unlink c = λ v z place seen next x m journal r is. lift_unlink_vertex v z journal r place seen next x m
    is
