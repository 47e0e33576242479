use Rattle.core_rule.proofs.FreezeLifts.{lift_store_free}
use Rattle.core_rule.proofs.OwnLifts.{lift_pop, lift_store, lift_push}
use Rattle.core_rule.proofs.lifts.steps_on_free_nodes_are_allowed.Goals as goal

pub returns-clause-pop : goal.returns-clause-pop
returns-clause-pop c = λ v z seen next m journal r is. lift_pop v z seen next m journal r is

pub returns-clause-store : goal.returns-clause-store
returns-clause-store c = λ v z x field word m journal r. lift_store v z x field word m journal r

pub returns-clause-push : goal.returns-clause-push
returns-clause-push c = λ v z seen x m journal r is. lift_push v z seen x m journal r is

pub returns-clause-store_link : goal.returns-clause-store_link
returns-clause-store_link c = λ v z next x m journal r. lift_store_free v z next x m journal r
