use Rattle.std.proofs.Common.{rules, refl, sym, subst}
use Rattle.packed_link.specs.declared.link.Life.{Life}
use Rattle.graph_table.specs.Filled.{MayLinkFilledVertex, filled_vertex_event}
use Rattle.graph_table.proofs.Owed.{exchange_owes}
use Rattle.core_rule.specs.Fronts.{key_in}
use Rattle.core_rule.proofs.VertexLifts.{lift_link_vertex}
use Rattle.graph_table.proofs.table.GraphTable.link_vertex.Goals as goal

pub exchange-found-requires-clause-owes : goal.exchange-found-requires-clause-owes
exchange-found-requires-clause-owes c =
    let x = c.fresh.inside.life in
    let v = c.args.token.now.view in
    let m = subst (λ (y : Life). MayLinkFilledVertex v c.args.place c.args.seen.0 y)
    (sym c.fresh.view_is) c.requires.may in
    exchange_owes v _ _ _ (filled_vertex_event v c.args.place c.args.seen.0 x) refl refl refl (search rules)
    (λ journal r is. lift_link_vertex v c.requires.table.layout journal r c.args.place c.args.seen.0
    (key_in v x.index) x m is)
