use Rattle.std.proofs.Common.{rules, refl, sym, subst}
use Rattle.packed_link.specs.declared.link.Life.{Life}
use Rattle.graph_table.specs.Table.{source_in, target_in, weight_in}
use Rattle.graph_table.specs.Filled.{MayReplaceByFilled, replaced_event}
use Rattle.graph_table.proofs.Owed.{exchange_owes_at}
use Rattle.core_rule.specs.Fronts.{key_in}
use Rattle.core_rule.proofs.EdgeLifts.{lift_replace_edge}
use Rattle.graph_table.proofs.table.GraphTable.replace_edge.Goals as goal

pub exchange-found-requires-clause-owes : goal.exchange-found-requires-clause-owes
exchange-found-requires-clause-owes c =
    let x = c.fresh.inside.life in
    let v = c.args.token.now.view in
    let old = c.args.old in
    let m = subst (λ (y : Life). MayReplaceByFilled v c.args.seen.0 old y) (sym c.fresh.view_is) c.requires.may in
    exchange_owes_at v _ _ _ _ (replaced_event v c.args.seen.0 old x) (search rules) refl refl refl (search rules)
    (λ journal r is. lift_replace_edge v c.requires.table.layout journal r c.args.seen.0 (key_in v x.index)
    (source_in v old.index) (target_in v x.index) (weight_in v x.index) old x m is)
