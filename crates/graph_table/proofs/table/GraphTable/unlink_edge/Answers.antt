use Rattle.std.proofs.Common.{rules, refl}
use Rattle.graph_table.proofs.Owed.{exchange_owes}
use Rattle.core_rule.specs.OwnEvents.{unlink_edge_event}
use Rattle.core_rule.proofs.UnlinkLifts.{lift_unlink_edge}
use Rattle.graph_table.proofs.table.GraphTable.unlink_edge.Goals as goal

pub exchange-found-requires-clause-owes : goal.exchange-found-requires-clause-owes
exchange-found-requires-clause-owes c =
    let v = c.args.token.now.view in
    let m = c.requires.may in
    exchange_owes v _ _ _ (unlink_edge_event v c.args.place c.args.seen.0 c.args.next c.args.dead) refl refl refl
    (search rules)
    (λ journal r is. lift_unlink_edge v c.requires.table.layout journal r c.args.place c.args.seen.0 c.args.next m.0
    c.args.dead m.1 is)
