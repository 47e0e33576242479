use Rattle.std.proofs.Common.{subst, sym}
use Rattle.graph_kinds.specs.Answer.{plain}
use Rattle.graph_kinds.specs.declared.outcome.Outcome.TheVariants.{Full}
use Rattle.graph_updates.specs.Hands.{HandValue, IsHandOf}
use Rattle.graph_updates.specs.Replying.{HasEnded, IsDueForFull}
use Rattle.graph_updates.specs.contracts.hand.Hand.{the_view}
use Rattle.graph_updates.proofs.CallsEnd.{HasReplied, with_token}
use Rattle.graph_updates.proofs.EnteredHands.{began}
use Rattle.graph_updates.proofs.EntriesRight.{full_ends}
use Rattle.graph_updates.proofs.replying.reply_full.Goals as goal

module _ (c : goal.After-reply) where
  ends : HasReplied c.args.table.now c.args.call.now c.args.tries (plain Full) c.args.entered.now
      (with_token (the_view c.hand.inside) c.reply.new.token)
  ends =
      let back = sym c.hand.view_is in
      let old = c.args.entered.now in
      let hand = subst (λ (h : HandValue). IsHandOf c.args.table.now h) back c.requires.hand in
      let ended = subst (λ (h : HandValue). HasEnded old h) back c.requires.ended in
      let start = began c.entered.inside old c.entered.invariant c.entered.view_is in
      let d = subst (λ (h : HandValue). IsDueForFull c.args.call.now old.token.view h.token.view
      c.args.place.now.value.view.front) back c.requires.due in
      full_ends c.args.table.now old (the_view c.hand.inside) c.reply.new.token hand c.reply.ensures.table
      c.requires.order ended c.args.call.now c.args.tries _ c.args.place.now.value.view.front start d
      c.reply.ensures.replied

pub returns-clause-hand : goal.returns-clause-hand
returns-clause-hand c = (ends c).hand

pub returns-clause-order : goal.returns-clause-order
returns-clause-order c = (ends c).order

pub returns-clause-closed : goal.returns-clause-closed
returns-clause-closed c = (ends c).closed

pub returns-clause-answered : goal.returns-clause-answered
returns-clause-answered c = (ends c).answered
