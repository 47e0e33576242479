use Rattle.std.proofs.Common.{rules, refl}
use Rattle.graph_table.proofs.Owed.{store_owes}
use Rattle.core_rule.specs.OwnEvents.{withdraw_event}
use Rattle.core_rule.proofs.OwnLifts.{lift_withdraw}
use Rattle.graph_table.proofs.table.GraphTable.withdraw.Goals as goal

pub put-requires-clause-owes : goal.put-requires-clause-owes
put-requires-clause-owes c = store_owes c.args.token.now.view _ _ (withdraw_event c.args.token.now.view) refl
    (search rules) refl (search rules) (λ journal r. lift_withdraw c.args.token.now.view c.requires.may journal r)
