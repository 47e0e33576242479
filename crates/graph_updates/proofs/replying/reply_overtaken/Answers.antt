use Rattle.std.proofs.Common.{arith, subst, sym}
use Rattle.graph_kinds.specs.Answer.{plain}
use Rattle.graph_kinds.specs.declared.outcome.Outcome.TheVariants.{Overtaken}
use Rattle.graph_updates.specs.Hands.{HandValue, IsHandOf}
use Rattle.graph_updates.specs.Replying.{HasEnded, IsDueOvertaken}
use Rattle.graph_updates.specs.contracts.hand.Hand.{the_view}
use Rattle.graph_updates.proofs.CallsEnd.{HasReplied, with_token}
use Rattle.graph_updates.proofs.EnteredHands.{began}
use Rattle.graph_updates.proofs.Overtaking.{exchange_high, exchange_low, overtaken_ends}
use Rattle.graph_updates.proofs.replying.reply_overtaken.Goals as goal

pub reply_overtaken-requires-clause-start : goal.reply_overtaken-requires-clause-start
reply_overtaken-requires-clause-start c =
    let old = c.args.entered.now in
    let at = c.args.exchange.now.value.view.front in
    let d = subst (λ (h : HandValue). IsDueOvertaken c.args.call.now old.token.view h.token.view at c.args.ends)
    (sym c.hand.view_is) c.requires.due in
    let m = c.hand.inside.token.view in
    let high = exchange_high c.args.call.now d.from d.to c.args.ends.from c.args.ends.to 1 3 old.token.view m at
    d.on.exchange in
    let low = exchange_low c.args.call.now d.from d.to c.args.ends.from c.args.ends.to 1 3 old.token.view m at
    d.on.exchange in
    let same = began c.entered.inside old c.entered.invariant c.entered.view_is in
    omega (arith, same, low, high)

pub reply_overtaken-requires-clause-exchange : goal.reply_overtaken-requires-clause-exchange
reply_overtaken-requires-clause-exchange c =
    let old = c.args.entered.now in
    let at = c.args.exchange.now.value.view.front in
    let d = subst (λ (h : HandValue). IsDueOvertaken c.args.call.now old.token.view h.token.view at c.args.ends)
    (sym c.hand.view_is) c.requires.due in
    let m = c.hand.inside.token.view in
    let high = exchange_high c.args.call.now d.from d.to c.args.ends.from c.args.ends.to 1 3 old.token.view m at
    d.on.exchange in
    high

module _ (c : goal.After-reply_overtaken) where
  ends : HasReplied c.args.table.now c.args.call.now c.args.tries (plain Overtaken) c.args.entered.now
      (with_token (the_view c.hand.inside) c.reply_overtaken.new.token)
  ends =
      let back = sym c.hand.view_is in
      let old = c.args.entered.now in
      let hand = subst (λ (h : HandValue). IsHandOf c.args.table.now h) back c.requires.hand in
      let ended = subst (λ (h : HandValue). HasEnded old h) back c.requires.ended in
      let start = began c.entered.inside old c.entered.invariant c.entered.view_is in
      let d = subst (λ (h : HandValue). IsDueOvertaken c.args.call.now old.token.view h.token.view
      c.args.exchange.now.value.view.front c.args.ends) back c.requires.due in
      overtaken_ends c.args.table.now old (the_view c.hand.inside) c.reply_overtaken.new.token hand
      c.reply_overtaken.ensures.table c.requires.order ended c.args.call.now c.args.tries _
      c.args.exchange.now.value.view.front c.args.ends start d c.reply_overtaken.ensures.replied

pub returns-clause-hand : goal.returns-clause-hand
returns-clause-hand c = (ends c).hand

pub returns-clause-order : goal.returns-clause-order
returns-clause-order c = (ends c).order

pub returns-clause-closed : goal.returns-clause-closed
returns-clause-closed c = (ends c).closed

pub returns-clause-answered : goal.returns-clause-answered
returns-clause-answered c = (ends c).answered
