use Rattle.std.proofs.Common.{rules, refl, ℕ, sym, subst}
use Rattle.packed_link.specs.declared.link.Life.{Life}
use Rattle.graph_table.proofs.Owed.{store_owes}
use Rattle.core_rule.specs.OwnEvents.{store_event}
use Rattle.core_rule.specs.Fronts.{MayStorePrivate}
use Rattle.core_rule.proofs.OwnLifts.{lift_store}
use Rattle.graph_table.specs.Table.{field_of}
use Rattle.graph_table.proofs.table.GraphTable.store_private.Goals as goal

pub put-requires-clause-owes : goal.put-requires-clause-owes
put-requires-clause-owes c = let x = c.fresh.inside.life in let n = c.number_of-number.result in
    let m = subst (λ (k : ℕ). MayStorePrivate c.args.token.now.view x k c.args.word)
    (sym c.number_of-number.ensures.number) (subst (λ (y : Life). MayStorePrivate c.args.token.now.view y
    (field_of c.args.field) c.args.word) (sym c.fresh.view_is) c.requires.may) in
    store_owes c.args.token.now.view _ _ (store_event c.args.token.now.view x n c.args.word) refl
    (search rules) refl refl (λ journal r. lift_store c.args.token.now.view c.requires.table.layout x n c.args.word
    m journal r)
