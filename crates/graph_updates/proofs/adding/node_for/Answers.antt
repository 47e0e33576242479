use Rattle.std.proofs.Common.{Option, ap, arith, sym, subst}
use Rattle.packed_link.specs.declared.link.Life.{Life}
use Rattle.graph_updates.specs.Adding.{MatchNode}
use Rattle.graph_updates.specs.Hands.{HoldsNoOther}
use Rattle.graph_updates.specs.Parts.{may_take}
use Rattle.graph_updates.proofs.AddingTells.{node_spare, node_taken}
use Rattle.graph_updates.proofs.adding.node_for.Goals as goal

pub returns-in-Some-clause-node : goal.returns-in-Some-clause-node
returns-in-Some-clause-node c = node_spare c.args.token.now.view c.args.spare c.in-Some.fresh c.requires.number
    c.requires.table.sound c.in-Some.is c.requires.spare

pub returns-in-None-clause-node : goal.returns-in-None-clause-node
returns-in-None-clause-node c = subst
    (λ (o : Option Life). MatchNode c.take.result o c.args.token.now.view c.take.new.token.view) (sym c.in-None.is)
    (node_taken c.take.result c.args.token.now.view c.take.new.token.view c.take.ensures.taken)

pub take-requires-clause-limit : goal.take-requires-clause-limit
take-requires-clause-limit c =
    let low = c.requires.limit in
    let one = ap may_take c.in-None.is in
    omega (arith, low, one)

pub take-requires-clause-none : goal.take-requires-clause-none
take-requires-clause-none c = subst (λ (o : Option Life). HoldsNoOther o c.args.token.now.view) c.in-None.is
    c.requires.none
