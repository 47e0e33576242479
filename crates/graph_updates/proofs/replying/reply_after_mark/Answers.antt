use Rattle.std.proofs.Common.{subst, sym}
use Rattle.graph_kinds.specs.Answer.{plain}
use Rattle.graph_updates.specs.Hands.{HandValue, IsHandOf}
use Rattle.graph_updates.specs.Replying.{HasEnded, IsDueAtMark}
use Rattle.graph_updates.specs.contracts.hand.Hand.{the_view}
use Rattle.graph_updates.proofs.CallsEnd.{HasReplied, with_token}
use Rattle.graph_updates.proofs.EnteredHands.{began}
use Rattle.graph_updates.proofs.EntriesRight.{mark_ends}
use Rattle.graph_updates.proofs.replying.reply_after_mark.Goals as goal

module _ (c : goal.After-reply_after_mark) where
  ends : HasReplied c.args.table.now c.args.call.now c.args.tries (plain c.args.outcome) c.args.entered.now
      (with_token (the_view c.hand.inside) c.reply_after_mark.new.token)
  ends =
      let back = sym c.hand.view_is in
      let old = c.args.entered.now in
      let hand = subst (λ (h : HandValue). IsHandOf c.args.table.now h) back c.requires.hand in
      let ended = subst (λ (h : HandValue). HasEnded old h) back c.requires.ended in
      let start = began c.entered.inside old c.entered.invariant c.entered.view_is in
      let d = subst (λ (h : HandValue). IsDueAtMark c.args.call.now c.args.outcome old.token.view h.token.view
      c.args.life) back c.requires.due in
      mark_ends c.args.table.now old (the_view c.hand.inside) c.reply_after_mark.new.token hand
      c.reply_after_mark.ensures.table c.requires.order ended c.args.call.now c.args.outcome c.args.tries _
      c.args.life start d
      c.reply_after_mark.ensures.replied

pub returns-clause-hand : goal.returns-clause-hand
returns-clause-hand c = (ends c).hand

pub returns-clause-order : goal.returns-clause-order
returns-clause-order c = (ends c).order

pub returns-clause-closed : goal.returns-clause-closed
returns-clause-closed c = (ends c).closed

pub returns-clause-answered : goal.returns-clause-answered
returns-clause-answered c = (ends c).answered
