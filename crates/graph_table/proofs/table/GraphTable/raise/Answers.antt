use Rattle.std.proofs.Common.{rules, refl, arith}
use Rattle.graph_table.proofs.Owed.{add_owes}
use Rattle.core_rule.specs.OwnEvents.{raise_event}
use Rattle.core_rule.proofs.VertexLifts.{lift_raise}
use Rattle.core_kept.proofs.NoWrap.{bounds}
use Rattle.graph_table.proofs.table.GraphTable.raise.Goals as goal

pub add_one-requires-clause-owes : goal.add_one-requires-clause-owes
add_one-requires-clause-owes c =
    let v = c.args.token.now.view in
    let x = c.args.from in
    add_owes v _ _ (raise_event v x) (search rules) (λ n. refl) (λ n. refl) (λ n. refl) (λ n. refl)
    (λ journal r. let a = (lift_raise v c.requires.table.layout journal r x c.requires.may).vertex in omega
    (arith, (bounds v.sizes c.requires.table.layout journal r.kept).counters x.index a.there a.used a.vertex))
    (λ journal r. lift_raise v c.requires.table.layout journal r x c.requires.may)
