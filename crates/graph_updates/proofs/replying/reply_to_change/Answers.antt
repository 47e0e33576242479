use Rattle.std.proofs.Common.{◌≤◌, arith, length, subst, sym}
use Rattle.graph_kinds.specs.Answer.{plain}
use Rattle.packed_link.specs.Layout.{IsLayout}
use Rattle.core_journal.proofs.Lists.{prefix_length}
use Rattle.core_stretches.proofs.MakesTell.{makes_later}
use Rattle.graph_updates.specs.Hands.{HandValue, IsHandOf}
use Rattle.graph_updates.specs.Replying.{HasEnded, IsDueByChange}
use Rattle.graph_updates.specs.contracts.hand.Hand.{the_view}
use Rattle.graph_updates.proofs.CallsEnd.{HasReplied, with_token}
use Rattle.graph_updates.proofs.EnteredHands.{began}
use Rattle.graph_updates.proofs.EntriesRight.{carried_makes, change_ends}
use Rattle.graph_updates.proofs.OwnChanges.{at_until}
use Rattle.graph_updates.proofs.replying.reply_to_change.Goals as goal
use Rattle.std.proofs.Common.{true}

pub reply-requires-clause-start : goal.reply-requires-clause-start
reply-requires-clause-start c =
    let old = c.args.entered.now in
    let m = c.hand.inside.token.view in
    let at = c.args.place.now.value.view.front in
    let d = subst (λ (h : HandValue). IsDueByChange c.args.call.now c.args.outcome old.token.view h.token.view at)
    (sym c.hand.view_is) c.requires.due in
    let same = began c.entered.inside old c.entered.invariant c.entered.view_is in
    let low : length old.token.view.front ≤ length m.front = prefix_length old.token.view.front m.front
    (makes_later old.token.view m _ (carried_makes c.args.call.now 1 3 old.token.view m at d.stretch)).grows in
    omega (arith, same, low)

pub reply-requires-clause-place : goal.reply-requires-clause-place
reply-requires-clause-place c = λ other.
    let old = c.args.entered.now in
    let m = c.hand.inside.token.view in
    let at = c.args.place.now.value.view.front in
    let d = subst (λ (h : HandValue). IsDueByChange c.args.call.now c.args.outcome old.token.view h.token.view at)
    (sym c.hand.view_is) c.requires.due in
    let hand = subst (λ (h : HandValue). IsHandOf c.args.table.now h) (sym c.hand.view_is) c.requires.hand in
    let layout = subst IsLayout (makes_later old.token.view m _
    (carried_makes c.args.call.now 1 3 old.token.view m at d.stretch)).sizes hand.of.layout in
    prefix_length at m.front (at_until true c.args.call.now 1 3 old.token.view m at layout d.stretch)

module _ (c : goal.After-reply) where
  ends : HasReplied c.args.table.now c.args.call.now c.args.tries (plain c.args.outcome) c.args.entered.now
      (with_token (the_view c.hand.inside) c.reply.new.token)
  ends =
      let back = sym c.hand.view_is in
      let old = c.args.entered.now in
      let hand = subst (λ (h : HandValue). IsHandOf c.args.table.now h) back c.requires.hand in
      let ended = subst (λ (h : HandValue). HasEnded old h) back c.requires.ended in
      let start = began c.entered.inside old c.entered.invariant c.entered.view_is in
      let d = subst (λ (h : HandValue). IsDueByChange c.args.call.now c.args.outcome old.token.view h.token.view
      c.args.place.now.value.view.front) back c.requires.due in
      change_ends c.args.table.now old (the_view c.hand.inside) c.reply.new.token hand c.reply.ensures.table
      c.requires.order ended c.args.call.now c.args.tries c.args.outcome _ c.args.place.now.value.view.front
      start d c.reply.ensures.replied

pub returns-clause-hand : goal.returns-clause-hand
returns-clause-hand c = (ends c).hand

pub returns-clause-order : goal.returns-clause-order
returns-clause-order c = (ends c).order

pub returns-clause-closed : goal.returns-clause-closed
returns-clause-closed c = (ends c).closed

pub returns-clause-answered : goal.returns-clause-answered
returns-clause-answered c = (ends c).answered
