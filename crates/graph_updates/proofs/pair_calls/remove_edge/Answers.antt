use Rattle.std.proofs.Common.{None, arith, refl, subst, sym, true, rules}
use Rattle.graph_kinds.specs.declared.call.Call.TheVariants.{RemoveEdge}
use Rattle.graph_kinds.specs.declared.outcome.Outcome.TheVariants.{Removed}
use Rattle.epoch_limbo.specs.Passes.{IsOpened}
use Rattle.graph_updates.specs.Hands.{HandValue}
use Rattle.graph_updates.proofs.CallsGo.{due_again, due_by_change, goes_few}
use Rattle.graph_updates.proofs.ExchangesEnd.{due_overtaken, order_raised, raised_kept, unpairing_moves}
use Rattle.graph_updates.proofs.PairAnswers.{due_lacking, remove_lacking}
use Rattle.graph_updates.proofs.pair_calls.remove_edge.Goals as goal

pub remove_pair-removed-requires-clause-raised : goal.remove_pair-removed-requires-clause-raised
remove_pair-removed-requires-clause-raised c = order_raised c.begin.new.hand
    (c.in_default.ensures.order c.requires.order)

pub finish-requires-clause-limit : goal.finish-requires-clause-limit
finish-requires-clause-limit c = unpairing_moves c.args.hand.now c.begin.new.hand c.remove_pair-removed.new.hand
    c.requires.order c.in_default.ensures.begun.0 c.in_default.ensures.begun.1.opened c.remove_pair-removed.result
    c.args.from c.args.to c.args.tries c.remove_pair-removed.ensures.removed

pub reply_to_change-requires-clause-due : goal.reply_to_change-requires-clause-due
reply_to_change-requires-clause-due c =
    let u = c.by-entered.result.token.view in
    let v = c.begin.new.hand.token.view in
    let w = c.remove_pair-removed.new.hand.token.view in
    let x = c.finish.new.hand.token.view in
    let opened = subst (λ (h : HandValue). IsOpened h.token.view v) (sym c.by-entered.ensures)
    c.in_default.ensures.begun.1.opened in
    let h = c.in-Marked.ensures.removed in
    due_by_change true (RemoveEdge c.args.from c.args.to) (Removed c.in-Marked.weight) 0 u v w x
    c.in-Marked.moment.value.view.front (omega arith) opened h.carries c.finish.ensures.finished.stretch refl h.reply

pub reply_to_change-requires-clause-ended : goal.reply_to_change-requires-clause-ended
reply_to_change-requires-clause-ended c =
    let u = c.by-entered.result.token.view in
    let v = c.begin.new.hand.token.view in
    let w = c.remove_pair-removed.new.hand.token.view in
    let x = c.finish.new.hand.token.view in
    let opened = subst (λ (h : HandValue). IsOpened h.token.view v) (sym c.by-entered.ensures)
    c.in_default.ensures.begun.1.opened in
    record {
      left = search rules;
      closed = search rules;
      nodes = search rules;
      raised = raised_kept None u v w x opened c.finish.ensures.finished.stretch c.remove_pair-removed.ensures.raised;
      uses = search rules;
    }

pub reply_overtaken-requires-clause-due : goal.reply_overtaken-requires-clause-due
reply_overtaken-requires-clause-due c =
    let u = c.by-entered.result.token.view in
    let v = c.begin.new.hand.token.view in
    let w = c.remove_pair-removed.new.hand.token.view in
    let x = c.finish.new.hand.token.view in
    let opened = subst (λ (h : HandValue). IsOpened h.token.view v) (sym c.by-entered.ensures)
    c.in_default.ensures.begun.1.opened in
    due_overtaken (RemoveEdge c.args.from c.args.to) c.args.from c.args.to 0 c.in-Overtaken.ends u v w x
    c.in-Overtaken.moment.value.view.front (omega arith) opened c.finish.ensures.finished.stretch (refl, refl)
    c.in-Overtaken.ensures.removed.on

pub reply_overtaken-requires-clause-ended : goal.reply_overtaken-requires-clause-ended
reply_overtaken-requires-clause-ended c =
    let u = c.by-entered.result.token.view in
    let v = c.begin.new.hand.token.view in
    let w = c.remove_pair-removed.new.hand.token.view in
    let x = c.finish.new.hand.token.view in
    let opened = subst (λ (h : HandValue). IsOpened h.token.view v) (sym c.by-entered.ensures)
    c.in_default.ensures.begun.1.opened in
    record {
      left = search rules;
      closed = search rules;
      nodes = search rules;
      raised = raised_kept None u v w x opened c.finish.ensures.finished.stretch c.remove_pair-removed.ensures.raised;
      uses = search rules;
    }

pub reply_lacking-requires-clause-due : goal.reply_lacking-requires-clause-due
reply_lacking-requires-clause-due c =
    let u = c.by-entered.result.token.view in
    let v = c.begin.new.hand.token.view in
    let w = c.remove_pair-removed.new.hand.token.view in
    let x = c.finish.new.hand.token.view in
    let opened = subst (λ (h : HandValue). IsOpened h.token.view v) (sym c.by-entered.ensures)
    c.in_default.ensures.begun.1.opened in
    let g = c.in-Lacks.ensures.removed.0 in
    due_lacking (RemoveEdge c.args.from c.args.to) true g.taken c.args.from c.args.to u v w x
    (goes_few true c.begin.new.hand c.remove_pair-removed.new.hand g) opened g.stretch c.finish.ensures.finished.stretch
    c.in-Lacks.lack c.in-Lacks.ensures.removed.1
    (λ j h. remove_lacking c.args.from c.args.to j c.in-Lacks.lack h)

pub reply_lacking-requires-clause-ended : goal.reply_lacking-requires-clause-ended
reply_lacking-requires-clause-ended c =
    let u = c.by-entered.result.token.view in
    let v = c.begin.new.hand.token.view in
    let w = c.remove_pair-removed.new.hand.token.view in
    let x = c.finish.new.hand.token.view in
    let opened = subst (λ (h : HandValue). IsOpened h.token.view v) (sym c.by-entered.ensures)
    c.in_default.ensures.begun.1.opened in
    record {
      left = search rules;
      closed = search rules;
      nodes = search rules;
      raised = raised_kept None u v w x opened c.finish.ensures.finished.stretch c.remove_pair-removed.ensures.raised;
      uses = search rules;
    }

pub reply_again-requires-clause-due : goal.reply_again-requires-clause-due
reply_again-requires-clause-due c =
    let u = c.by-entered.result.token.view in
    let v = c.begin.new.hand.token.view in
    let w = c.remove_pair-removed.new.hand.token.view in
    let x = c.finish.new.hand.token.view in
    let opened = subst (λ (h : HandValue). IsOpened h.token.view v) (sym c.by-entered.ensures)
    c.in_default.ensures.begun.1.opened in
    let g = c.in-Again.ensures.removed.0 in
    due_again true g.taken u v w x (goes_few true c.begin.new.hand c.remove_pair-removed.new.hand g) opened g.stretch
    c.finish.ensures.finished.stretch c.args.tries w.number refl c.in-Again.ensures.removed.1

pub reply_again-requires-clause-ended : goal.reply_again-requires-clause-ended
reply_again-requires-clause-ended c =
    let u = c.by-entered.result.token.view in
    let v = c.begin.new.hand.token.view in
    let w = c.remove_pair-removed.new.hand.token.view in
    let x = c.finish.new.hand.token.view in
    let opened = subst (λ (h : HandValue). IsOpened h.token.view v) (sym c.by-entered.ensures)
    c.in_default.ensures.begun.1.opened in
    record {
      left = search rules;
      closed = search rules;
      nodes = search rules;
      raised = raised_kept None u v w x opened c.finish.ensures.finished.stretch c.remove_pair-removed.ensures.raised;
      uses = search rules;
    }
