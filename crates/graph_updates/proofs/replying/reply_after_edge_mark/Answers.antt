use Rattle.std.proofs.Common.{subst, sym}
use Rattle.graph_kinds.specs.Answer.{plain}
use Rattle.graph_updates.specs.Hands.{HandValue, IsHandOf}
use Rattle.graph_updates.specs.Replying.{HasEnded, IsDueAtEdgeMark}
use Rattle.graph_updates.specs.contracts.hand.Hand.{the_view}
use Rattle.graph_updates.proofs.CallsEnd.{HasReplied, with_token}
use Rattle.graph_updates.proofs.EnteredHands.{began}
use Rattle.graph_updates.proofs.EntriesRight.{edge_mark_ends}
use Rattle.graph_updates.proofs.MarkPlaces.{cut_marked}
use Rattle.graph_updates.proofs.replying.reply_after_edge_mark.Goals as goal

pub reply_after_edge_mark-requires-clause-marked : goal.reply_after_edge_mark-requires-clause-marked
reply_after_edge_mark-requires-clause-marked c =
    let old = c.args.entered.now in
    let d = subst (λ (h : HandValue). IsDueAtEdgeMark c.args.call.now c.args.outcome old.token.view h.token.view
    c.args.edge) (sym c.hand.view_is) c.requires.due in
    cut_marked c.hand.inside.token.view.front c.args.edge d.number d.cut

module _ (c : goal.After-reply_after_edge_mark) where
  ends : HasReplied c.args.table.now c.args.call.now c.args.tries (plain c.args.outcome) c.args.entered.now
      (with_token (the_view c.hand.inside) c.reply_after_edge_mark.new.token)
  ends =
      let back = sym c.hand.view_is in
      let old = c.args.entered.now in
      let hand = subst (λ (h : HandValue). IsHandOf c.args.table.now h) back c.requires.hand in
      let ended = subst (λ (h : HandValue). HasEnded old h) back c.requires.ended in
      let start = began c.entered.inside old c.entered.invariant c.entered.view_is in
      let d = subst (λ (h : HandValue). IsDueAtEdgeMark c.args.call.now c.args.outcome old.token.view h.token.view
      c.args.edge) back c.requires.due in
      edge_mark_ends c.args.table.now old (the_view c.hand.inside) c.reply_after_edge_mark.new.token hand
      c.reply_after_edge_mark.ensures.table c.requires.order ended c.args.call.now c.args.outcome c.args.tries _
      c.args.edge start d
      c.reply_after_edge_mark.ensures.replied

pub returns-clause-hand : goal.returns-clause-hand
returns-clause-hand c = (ends c).hand

pub returns-clause-order : goal.returns-clause-order
returns-clause-order c = (ends c).order

pub returns-clause-closed : goal.returns-clause-closed
returns-clause-closed c = (ends c).closed

pub returns-clause-answered : goal.returns-clause-answered
returns-clause-answered c = (ends c).answered
