use Rattle.std.proofs.Common.{length, subst, sym, ◌≤◌, arith}
use Rattle.graph_kinds.specs.Answer.{plain}
use Rattle.graph_kinds.specs.declared.outcome.Outcome.TheVariants.{Again}
use Rattle.core_journal.proofs.Lists.{prefix_length}
use Rattle.core_stretches.proofs.MakesTell.{makes_later}
use Rattle.graph_updates.specs.Hands.{HandValue, IsHandOf}
use Rattle.graph_updates.specs.Replying.{HasEnded, IsDueAgain}
use Rattle.graph_updates.specs.contracts.hand.Hand.{the_view}
use Rattle.graph_updates.proofs.CallsEnd.{HasReplied, with_token}
use Rattle.graph_updates.proofs.EnteredHands.{began}
use Rattle.graph_updates.proofs.EntriesRight.{again_ends}
use Rattle.graph_updates.proofs.replying.reply_again.Goals as goal

pub reply-requires-clause-start : goal.reply-requires-clause-start
reply-requires-clause-start c =
    let old = c.args.entered.now in
    let d = subst (λ (h : HandValue). IsDueAgain c.args.tries old.token.view h.token.view) (sym c.hand.view_is)
    c.requires.due in
    let same = began c.entered.inside old c.entered.invariant c.entered.view_is in
    let low : length old.token.view.front ≤ length c.hand.inside.token.view.front = prefix_length old.token.view.front
    c.hand.inside.token.view.front
    (makes_later old.token.view c.hand.inside.token.view d.stretch.own d.stretch.makes).grows in
    omega (arith, same, low)

module _ (c : goal.After-reply) where
  ends : HasReplied c.args.table.now c.args.call.now c.args.tries (plain Again) c.args.entered.now
      (with_token (the_view c.hand.inside) c.reply.new.token)
  ends =
      let back = sym c.hand.view_is in
      let old = c.args.entered.now in
      again_ends c.args.table.now old (the_view c.hand.inside) c.reply.new.token
      (subst (λ (h : HandValue). IsHandOf c.args.table.now h) back c.requires.hand) c.reply.ensures.table
      c.requires.order (subst (λ (h : HandValue). HasEnded old h) back c.requires.ended) c.args.call.now c.args.tries
      _ _ (began c.entered.inside old c.entered.invariant c.entered.view_is)
      (subst (λ (h : HandValue). IsDueAgain c.args.tries old.token.view h.token.view) back c.requires.due)
      c.reply.ensures.replied

pub returns-clause-hand : goal.returns-clause-hand
returns-clause-hand c = (ends c).hand

pub returns-clause-order : goal.returns-clause-order
returns-clause-order c = (ends c).order

pub returns-clause-closed : goal.returns-clause-closed
returns-clause-closed c = (ends c).closed

pub returns-clause-answered : goal.returns-clause-answered
returns-clause-answered c = (ends c).answered
