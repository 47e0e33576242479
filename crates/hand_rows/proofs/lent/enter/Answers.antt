use Rattle.std.proofs.Common.{◌≡◌, ◌+◌, ◌<◌, ◌≤◌, ◌∷◌, ℕ, [], None, Option, arith, subst, ◌∙◌}
use Rattle.packed_link.specs.declared.link.Life.{Life}
use Rattle.core_journal.specs.Event.{pops}
use Rattle.core_stretches.proofs.MakesTell.{makes_counts}
use Rattle.graph_updates.specs.Hands.{HoldsNoOther}
use Rattle.hand_rows.proofs.lent.enter.Goals as goal

pub returns-in-Done-clause-work : goal.returns-in-Done-clause-work
returns-in-Done-clause-work c = record {
  of = c.in-Done.ensures.hand.of;
  numbered = c.in-Done.ensures.hand.numbered;
  pass = c.in-Done.ensures.begun.1.opened.opened;
}

pub returns-in-Done-clause-none : goal.returns-in-Done-clause-none
returns-in-Done-clause-none c =
    let h = c.begin.new.hand in
    subst (λ (o : Option Life). HoldsNoOther o h.token.view) (c.in-Done.ensures.begun.1.spare ∙ c.requires.bare)
    (c.in-Done.ensures.begun.1.nodes c.requires.order.nodes).fresh

pub returns-in-Done-clause-limit : goal.returns-in-Done-clause-limit
returns-in-Done-clause-limit c =
    let v = c.args.hand.now.token.view in
    let w = c.begin.new.hand.token.view in
    let n = makes_counts pops v w _ c.in-Done.ensures.begun.1.opened.makes in
    let taken = c.requires.order.taken in
    let left = c.in-Done.ensures.begun.0 in
    omega (arith, n, taken, left)
