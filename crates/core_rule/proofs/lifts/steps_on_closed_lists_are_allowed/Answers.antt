use Rattle.core_rule.proofs.EdgeLifts.{lift_freeze_head}
use Rattle.core_rule.proofs.FoundMarkedIsSpent.{found_frozen}
use Rattle.core_rule.proofs.FreezeLifts.{lift_freeze_edge}
use Rattle.core_rule.proofs.lifts.steps_on_closed_lists_are_allowed.Goals as goal

pub returns-clause-head : goal.returns-clause-head
returns-clause-head c = λ v z x m journal r live. lift_freeze_head v z journal r x m live

pub returns-clause-edge : goal.returns-clause-edge
returns-clause-edge c = λ v z source place x m journal r live. lift_freeze_edge v z journal r source place x m live

pub returns-clause-found : goal.returns-clause-found
returns-clause-found c = λ v z source place x m journal r dead. found_frozen v z source place x m journal r dead
