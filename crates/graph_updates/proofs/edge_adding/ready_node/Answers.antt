use Rattle.std.proofs.Common.{Option, sym, subst}
use Rattle.packed_link.specs.declared.link.Life.{Life}
use Rattle.graph_updates.specs.contracts.hand.Hand.{the_view}
use Rattle.graph_updates.specs.Adding.{MatchNode}
use Rattle.graph_updates.specs.EdgeChanging.{MatchNodeReady}
use Rattle.graph_updates.specs.Hands.{HandValue, HasItsNodes, IsHandOf}
use Rattle.graph_updates.proofs.AddingTries.{with_spare}
use Rattle.graph_updates.proofs.NodesReady.{node_ready, ready_hand}
use Rattle.graph_updates.proofs.edge_adding.ready_node.Goals as goal

pub returns-clause-hand : goal.returns-clause-hand
returns-clause-hand c =
    let g = c.args.table.now in
    let h = the_view c.hand.inside in
    let t = c.node_for.new.token in
    let of : IsHandOf g h = subst (IsHandOf g) (sym c.hand.view_is) c.requires.hand in
    let k = subst (λ (o : Option Life). MatchNode c.node_for.result o h.token.view t.view) c.take-spare.ensures.value
    c.node_for.ensures.node in
    subst (λ (o : Option Life). IsHandOf g (with_spare h t o)) (sym c.take-spare.ensures.after)
    (ready_hand g h t of c.node_for.ensures.table c.node_for.result k)

pub returns-clause-ready : goal.returns-clause-ready
returns-clause-ready c =
    let g = c.args.table.now in
    let h = the_view c.hand.inside in
    let t = c.node_for.new.token in
    let of : IsHandOf g h = subst (IsHandOf g) (sym c.hand.view_is) c.requires.hand in
    let n : HasItsNodes h = subst HasItsNodes (sym c.hand.view_is) c.requires.nodes in
    let k = subst (λ (o : Option Life). MatchNode c.node_for.result o h.token.view t.view) c.take-spare.ensures.value
    c.node_for.ensures.node in
    subst (λ (q : HandValue). MatchNodeReady c.node_for.result q (with_spare h t c.take-spare.new.self)) c.hand.view_is
    (subst (λ (o : Option Life). MatchNodeReady c.node_for.result h (with_spare h t o)) (sym c.take-spare.ensures.after)
    (node_ready g h t of c.node_for.ensures.table n c.node_for.result k))
