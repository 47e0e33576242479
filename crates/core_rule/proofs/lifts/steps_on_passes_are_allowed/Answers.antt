use Rattle.core_rule.proofs.OwnLifts.{lift_announce, lift_withdraw, lift_move}
use Rattle.core_rule.proofs.lifts.steps_on_passes_are_allowed.Goals as goal

pub returns-clause-announce : goal.returns-clause-announce
returns-clause-announce c = λ v epoch m journal r. lift_announce v epoch m journal r

pub returns-clause-withdraw : goal.returns-clause-withdraw
returns-clause-withdraw c = λ v m journal r. lift_withdraw v m journal r

pub returns-clause-move_on : goal.returns-clause-move_on
returns-clause-move_on c = λ v seen m journal r is. lift_move v seen m journal r is
