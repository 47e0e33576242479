use Rattle.core_rule.proofs.EdgeLifts.{lift_link_edge, lift_mark_edge, lift_replace_edge}
use Rattle.core_rule.proofs.UnlinkLifts.{lift_unlink_edge}
use Rattle.core_rule.proofs.VertexLifts.{lift_raise}
use Rattle.core_rule.proofs.lifts.steps_on_edges_are_allowed.Goals as goal

pub returns-clause-link : goal.returns-clause-link
returns-clause-link c = λ v z place seen key source target weight x m journal r is. lift_link_edge v z journal r place
    seen key source target weight x m is

pub returns-clause-raise : goal.returns-clause-raise
returns-clause-raise c = λ v z x m journal r. lift_raise v z journal r x m

pub returns-clause-mark : goal.returns-clause-mark
returns-clause-mark c = λ v z source x m journal r live. lift_mark_edge v z journal r source x m live

pub returns-clause-replace : goal.returns-clause-replace
returns-clause-replace c = λ v z seen key source target weight old x m journal r is. lift_replace_edge v z journal r
    seen key source target weight old x m is

pub returns-clause-unlink : goal.returns-clause-unlink
returns-clause-unlink c = λ v z place seen next source x m journal r is. lift_unlink_edge v z journal r place seen next
    source x m is
