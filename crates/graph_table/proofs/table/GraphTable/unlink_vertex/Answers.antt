use Rattle.std.proofs.Common.{rules, refl}
use Rattle.graph_table.proofs.Owed.{exchange_owes}
use Rattle.core_rule.specs.OwnEvents.{unlink_vertex_event}
use Rattle.core_rule.proofs.UnlinkLifts.{lift_unlink_vertex}
use Rattle.graph_table.proofs.table.GraphTable.unlink_vertex.Goals as goal

pub exchange-found-requires-clause-owes : goal.exchange-found-requires-clause-owes
exchange-found-requires-clause-owes c = exchange_owes c.args.token.now.view _ _ _
    (unlink_vertex_event c.args.token.now.view c.args.place c.args.seen.0 c.args.next c.args.dead) refl refl refl
    (search rules) (λ journal r is. lift_unlink_vertex c.args.token.now.view c.requires.table.layout journal r
    c.args.place c.args.seen.0 c.args.next c.args.dead c.requires.may is)
