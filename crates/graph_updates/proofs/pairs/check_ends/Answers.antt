use Rattle.std.proofs.Common.{subst, sym}
use Rattle.graph_updates.specs.Hands.{HandValue, IsHandOf}
use Rattle.graph_updates.specs.Parts.{HasHelped}
use Rattle.graph_updates.specs.contracts.hand.Hand.{the_view}
use Rattle.graph_updates.proofs.EndsTell.{looked, looked_helped, looked_of}
use Rattle.graph_updates.proofs.pairs.check_ends.Goals as goal

pub returns-clause-hand : goal.returns-clause-hand
returns-clause-hand c =
    let g = c.args.table.now in
    let h = the_view c.hand.inside in
    let of : IsHandOf g h = subst (IsHandOf g) (sym c.hand.view_is) c.requires.hand in
    looked_of g h c.ends_alive.new.token of c.ends_alive.ensures.table c.ends_alive.ensures.makes

pub returns-clause-helped : goal.returns-clause-helped
returns-clause-helped c =
    let g = c.args.table.now in
    let h = the_view c.hand.inside in
    let t = c.ends_alive.new.token in
    let of : IsHandOf g h = subst (IsHandOf g) (sym c.hand.view_is) c.requires.hand in
    let now : HandValue = looked g h t of c.ends_alive.ensures.table c.ends_alive.ensures.makes in
    subst (λ (o : HandValue). HasHelped o now) c.hand.view_is
    (looked_helped g h t of c.ends_alive.ensures.table c.ends_alive.ensures.makes)
