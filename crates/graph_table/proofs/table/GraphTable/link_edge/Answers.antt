use Rattle.std.proofs.Common.{rules, refl, sym, subst}
use Rattle.packed_link.specs.declared.link.Life.{Life}
use Rattle.graph_table.specs.Table.{list_at, target_in, weight_in}
use Rattle.graph_table.specs.Filled.{MayLinkFilledEdge, filled_edge_event}
use Rattle.graph_table.proofs.Owed.{exchange_owes}
use Rattle.core_rule.specs.Fronts.{key_in}
use Rattle.core_rule.proofs.EdgeLifts.{lift_link_edge}
use Rattle.graph_table.proofs.table.GraphTable.link_edge.Goals as goal

pub exchange-found-requires-clause-owes : goal.exchange-found-requires-clause-owes
exchange-found-requires-clause-owes c =
    let x = c.fresh.inside.life in
    let v = c.args.token.now.view in
    let m = subst (λ (y : Life). MayLinkFilledEdge v c.args.place c.args.seen.0 y)
    (sym c.fresh.view_is) c.requires.may in
    exchange_owes v _ _ _ (filled_edge_event v c.args.place c.args.seen.0 x) refl refl refl (search rules)
    (λ journal r is. lift_link_edge v c.requires.table.layout journal r c.args.place c.args.seen.0 (key_in v x.index)
    (list_at v c.args.place) (target_in v x.index) (weight_in v x.index) x m is)
