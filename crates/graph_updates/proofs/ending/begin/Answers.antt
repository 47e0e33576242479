use Rattle.std.proofs.Common.{◌≤◌, ◌<◌, ◌^◌, arith, subst, sym}
use Rattle.core_stretches.specs.Holdings.{HasNoPass}
use Rattle.graph_updates.specs.Ending.{HasBegun}
use Rattle.graph_updates.specs.Hands.{HandValue, IsHandOf, IsInOrder}
use Rattle.graph_updates.specs.contracts.hand.Hand.{the_view}
use Rattle.graph_updates.proofs.EndingTells.{begun, begun_hand, begun_order, has_begun}
use Rattle.graph_updates.proofs.ending.begin.Goals as goal

pub returns-clause-hand : goal.returns-clause-hand
returns-clause-hand c =
    let old = the_view c.hand.inside in
    let h = subst (λ (k : HandValue). IsHandOf c.args.table.now k) (sym c.hand.view_is) c.requires.hand in
    let closed = subst (λ (k : HandValue). HasNoPass k.token.view) (sym c.hand.view_is) c.requires.closed in
    begun_hand c.args.table.now old c.open_pass.new.token h closed c.open_pass.ensures.opened
    c.open_pass.ensures.table

pub returns-clause-order : goal.returns-clause-order
returns-clause-order c = λ ord.
    let old = the_view c.hand.inside in
    let h = subst (λ (k : HandValue). IsHandOf c.args.table.now k) (sym c.hand.view_is) c.requires.hand in
    let closed = subst (λ (k : HandValue). HasNoPass k.token.view) (sym c.hand.view_is) c.requires.closed in
    let most : c.hand.inside.uses ≤ 2 ^ 32 = c.hand.invariant in
    let left : c.hand.inside.uses < 2 ^ 32 = let no = c.if-hand-eq-USES.false in omega (arith, no, most) in
    begun_order c.args.table.now old c.open_pass.new.token h closed c.open_pass.ensures.opened left
    (subst IsInOrder (sym c.hand.view_is) ord)

pub returns-clause-begun : goal.returns-clause-begun
returns-clause-begun c =
    let old = the_view c.hand.inside in
    let h = subst (λ (k : HandValue). IsHandOf c.args.table.now k) (sym c.hand.view_is) c.requires.hand in
    let closed = subst (λ (k : HandValue). HasNoPass k.token.view) (sym c.hand.view_is) c.requires.closed in
    let most : c.hand.inside.uses ≤ 2 ^ 32 = c.hand.invariant in
    let left : c.hand.inside.uses < 2 ^ 32 = let no = c.if-hand-eq-USES.false in omega (arith, no, most) in
    let o = c.open_pass.ensures.opened in (
      subst (λ (k : HandValue). k.uses < 2 ^ 32) c.hand.view_is left,
      subst (λ (k : HandValue). HasBegun k (begun c.args.table.now old c.open_pass.new.token h closed o))
          c.hand.view_is (has_begun c.args.table.now old c.open_pass.new.token h closed o),
    )
