use Rattle.std.proofs.Common.{arith, subst, sym}
use Rattle.graph_updates.specs.Hands.{IsHandOf, IsInOrder}
use Rattle.graph_updates.proofs.tests.worn.Goals as goal

pub returns-clause-hand : goal.returns-clause-hand
returns-clause-hand c =
    let h = subst (IsHandOf c.args.table.now) (sym c.hand.view_is) c.requires.hand in
    record { of = h.of; numbered = h.numbered; there = h.there; limbo = h.limbo; spare = h.spare }

pub returns-clause-order : goal.returns-clause-order
returns-clause-order c =
    let h = subst IsInOrder (sym c.hand.view_is) c.requires.order in
    let taken = h.taken in
    let moved = h.moved in
    let uses = h.uses in
    let given_up = h.given_up in
    record {
      book = h.book;
      taken = omega (arith, taken, uses);
      moved = omega (arith, moved, uses);
      uses = omega arith;
      again = h.again;
      given_up = omega (arith, given_up, uses);
      raised = h.raised;
      nodes = record { spent = h.nodes.spent; fresh = h.nodes.fresh };
    }
