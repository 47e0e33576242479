use Rattle.std.proofs.Common.{false, refl, subst, sym, rules}
use Rattle.graph_kinds.specs.declared.call.Call.TheVariants.{HasEdge}
use Rattle.graph_kinds.specs.declared.outcome.Outcome.TheVariants.{Edge}
use Rattle.epoch_limbo.specs.Passes.{IsOpened}
use Rattle.graph_updates.specs.Hands.{HandValue}
use Rattle.graph_updates.specs.Pairs.{HasPair}
use Rattle.graph_updates.proofs.CallsGo.{due_again, due_at, goes_few}
use Rattle.graph_updates.proofs.PairAnswers.{due_lacking, gives_edge, has_lacking, looking_moves}
use Rattle.graph_updates.proofs.RaisesAddUp.{raised_call}
use Rattle.graph_updates.proofs.pair_calls.has_edge.Goals as goal

pub finish-requires-clause-limit : goal.finish-requires-clause-limit
finish-requires-clause-limit c = looking_moves c.args.hand.now c.begin.new.hand c.look_up-looked.new.hand
    c.requires.order c.in_default.ensures.begun.0 c.in_default.ensures.begun.1.opened c.look_up-looked.result
    c.args.from c.args.to c.args.tries c.look_up-looked.ensures.looked

pub reply-requires-clause-due : goal.reply-requires-clause-due
reply-requires-clause-due c =
    let u = c.by-entered.result.token.view in
    let v = c.begin.new.hand.token.view in
    let w = c.look_up-looked.new.hand.token.view in
    let x = c.finish.new.hand.token.view in
    let opened = subst (λ (h : HandValue). IsOpened h.token.view v) (sym c.by-entered.ensures)
    c.in_default.ensures.begun.1.opened in
    let g = c.in-Edge.ensures.looked.0 in
    due_at false g.taken u v w x (goes_few false c.begin.new.hand c.look_up-looked.new.hand g) opened g.stretch
    c.finish.ensures.finished.stretch (HasEdge c.args.from c.args.to) (Edge c.in-Edge.seen.edge.weight)
    (HasPair c.args.from c.args.to c.in-Edge.seen.edge.weight) c.in-Edge.seen.moment.value.view.front
    (λ j h. gives_edge c.args.from c.args.to c.in-Edge.seen.edge.weight j h) c.in-Edge.ensures.looked.1

pub reply_lacking-requires-clause-due : goal.reply_lacking-requires-clause-due
reply_lacking-requires-clause-due c =
    let u = c.by-entered.result.token.view in
    let v = c.begin.new.hand.token.view in
    let w = c.look_up-looked.new.hand.token.view in
    let x = c.finish.new.hand.token.view in
    let opened = subst (λ (h : HandValue). IsOpened h.token.view v) (sym c.by-entered.ensures)
    c.in_default.ensures.begun.1.opened in
    let g = c.in-Lacks.ensures.looked.0 in
    due_lacking (HasEdge c.args.from c.args.to) false g.taken c.args.from c.args.to u v w x
    (goes_few false c.begin.new.hand c.look_up-looked.new.hand g) opened g.stretch c.finish.ensures.finished.stretch
    c.in-Lacks.lack c.in-Lacks.ensures.looked.1
    (λ j h. has_lacking c.args.from c.args.to j c.in-Lacks.lack h)

pub reply_again-requires-clause-due : goal.reply_again-requires-clause-due
reply_again-requires-clause-due c =
    let u = c.by-entered.result.token.view in
    let v = c.begin.new.hand.token.view in
    let w = c.look_up-looked.new.hand.token.view in
    let x = c.finish.new.hand.token.view in
    let opened = subst (λ (h : HandValue). IsOpened h.token.view v) (sym c.by-entered.ensures)
    c.in_default.ensures.begun.1.opened in
    let g = c.in-Again.ensures.looked.0 in
    due_again false g.taken u v w x (goes_few false c.begin.new.hand c.look_up-looked.new.hand g) opened g.stretch
    c.finish.ensures.finished.stretch c.args.tries w.number refl c.in-Again.ensures.looked.1

pub reply-requires-clause-ended : goal.reply-requires-clause-ended
reply-requires-clause-ended c =
    let u = c.by-entered.result.token.view in
    let v = c.begin.new.hand.token.view in
    let w = c.look_up-looked.new.hand.token.view in
    let x = c.finish.new.hand.token.view in
    let opened = subst (λ (h : HandValue). IsOpened h.token.view v) (sym c.by-entered.ensures)
    c.in_default.ensures.begun.1.opened in
    let g = c.in-Edge.ensures.looked.0 in
    record {
      left = search rules;
      closed = search rules;
      nodes = search rules;
      raised = raised_call g.taken u v w x opened c.finish.ensures.finished.stretch g.stretch;
      uses = search rules;
    }

pub reply_lacking-requires-clause-ended : goal.reply_lacking-requires-clause-ended
reply_lacking-requires-clause-ended c =
    let u = c.by-entered.result.token.view in
    let v = c.begin.new.hand.token.view in
    let w = c.look_up-looked.new.hand.token.view in
    let x = c.finish.new.hand.token.view in
    let opened = subst (λ (h : HandValue). IsOpened h.token.view v) (sym c.by-entered.ensures)
    c.in_default.ensures.begun.1.opened in
    let g = c.in-Lacks.ensures.looked.0 in
    record {
      left = search rules;
      closed = search rules;
      nodes = search rules;
      raised = raised_call g.taken u v w x opened c.finish.ensures.finished.stretch g.stretch;
      uses = search rules;
    }

pub reply_again-requires-clause-ended : goal.reply_again-requires-clause-ended
reply_again-requires-clause-ended c =
    let u = c.by-entered.result.token.view in
    let v = c.begin.new.hand.token.view in
    let w = c.look_up-looked.new.hand.token.view in
    let x = c.finish.new.hand.token.view in
    let opened = subst (λ (h : HandValue). IsOpened h.token.view v) (sym c.by-entered.ensures)
    c.in_default.ensures.begun.1.opened in
    let g = c.in-Again.ensures.looked.0 in
    record {
      left = search rules;
      closed = search rules;
      nodes = search rules;
      raised = raised_call g.taken u v w x opened c.finish.ensures.finished.stretch g.stretch;
      uses = search rules;
    }
