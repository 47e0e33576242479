use Rattle.std.proofs.Common.{List, arith, refl, subst, sym, true, rules}
use Rattle.graph_kinds.specs.declared.call.Call.TheVariants.{AddEdge}
use Rattle.graph_kinds.specs.declared.outcome.Outcome.TheVariants.{Present}
use Rattle.core_journal.specs.declared.event.Event.{Event}
use Rattle.epoch_limbo.specs.Passes.{IsOpened}
use Rattle.graph_updates.specs.Hands.{HandValue}
use Rattle.graph_updates.specs.Pairs.{HasPair}
use Rattle.graph_updates.specs.Parts.{may_take}
use Rattle.graph_updates.specs.Replying.{IsDueForFull}
use Rattle.graph_updates.proofs.CallsGo.{due_again, due_at, due_by_change, due_for_full, goes_few, may_one}
use Rattle.graph_updates.proofs.CallsGo.{may_pop}
use Rattle.graph_updates.proofs.ExchangesEnd.{due_overtaken, order_raised, pairing_moves, raised_kept}
use Rattle.graph_updates.proofs.PairAnswers.{add_lacking, due_lacking, gives_present}
use Rattle.graph_updates.proofs.pair_calls.add_edge.Goals as goal

pub add_pair-added-requires-clause-raised : goal.add_pair-added-requires-clause-raised
add_pair-added-requires-clause-raised c =
    order_raised c.begin.new.hand (c.in_default.ensures.order c.requires.order)

pub add_pair-added-requires-clause-limit : goal.add_pair-added-requires-clause-limit
add_pair-added-requires-clause-limit c =
    let few = may_pop c.args.hand.now c.begin.new.hand.token.view c.requires.order c.in_default.ensures.begun.0
    c.in_default.ensures.begun.1.opened in
    let one = may_one c.begin.new.hand.spare in
    omega (arith, few, one)

pub finish-requires-clause-limit : goal.finish-requires-clause-limit
finish-requires-clause-limit c =
    pairing_moves c.args.hand.now c.begin.new.hand c.add_pair-added.new.hand c.requires.order
    c.in_default.ensures.begun.0 c.in_default.ensures.begun.1.opened c.add_pair-added.result c.args.from c.args.to
    c.args.weight c.args.tries c.add_pair-added.ensures.added

pub reply_to_change-requires-clause-due : goal.reply_to_change-requires-clause-due
reply_to_change-requires-clause-due c =
    let u = c.by-entered.result.token.view in
    let v = c.begin.new.hand.token.view in
    let w = c.add_pair-added.new.hand.token.view in
    let x = c.finish.new.hand.token.view in
    let opened = subst (λ (h : HandValue). IsOpened h.token.view v) (sym c.by-entered.ensures)
    c.in_default.ensures.begun.1.opened in
    let h = c.in-Done.ensures.added in
    due_by_change true (AddEdge c.args.from c.args.to c.args.weight) c.in-Done.outcome
    (may_take c.begin.new.hand.spare) u v w x c.in-Done.moment.value.view.front (may_one c.begin.new.hand.spare) opened
    h.carries c.finish.ensures.finished.stretch h.changes h.reply

pub reply_to_change-requires-clause-ended : goal.reply_to_change-requires-clause-ended
reply_to_change-requires-clause-ended c =
    let u = c.by-entered.result.token.view in
    let v = c.begin.new.hand.token.view in
    let w = c.add_pair-added.new.hand.token.view in
    let x = c.finish.new.hand.token.view in
    let opened = subst (λ (h : HandValue). IsOpened h.token.view v) (sym c.by-entered.ensures)
    c.in_default.ensures.begun.1.opened in
    record {
      left = search rules;
      closed = search rules;
      nodes = search rules;
      raised = raised_kept c.add_pair-added.ensures.raised.0 u v w x opened c.finish.ensures.finished.stretch
          c.add_pair-added.ensures.raised.1;
      uses = search rules;
    }

pub reply_overtaken-requires-clause-due : goal.reply_overtaken-requires-clause-due
reply_overtaken-requires-clause-due c =
    let u = c.by-entered.result.token.view in
    let v = c.begin.new.hand.token.view in
    let w = c.add_pair-added.new.hand.token.view in
    let x = c.finish.new.hand.token.view in
    let opened = subst (λ (h : HandValue). IsOpened h.token.view v) (sym c.by-entered.ensures)
    c.in_default.ensures.begun.1.opened in
    due_overtaken (AddEdge c.args.from c.args.to c.args.weight) c.args.from c.args.to
    (may_take c.begin.new.hand.spare) c.in-Overtaken.ends u v w x c.in-Overtaken.moment.value.view.front
    (may_one c.begin.new.hand.spare) opened c.finish.ensures.finished.stretch (refl, refl)
    c.in-Overtaken.ensures.added.on

pub reply_overtaken-requires-clause-ended : goal.reply_overtaken-requires-clause-ended
reply_overtaken-requires-clause-ended c =
    let u = c.by-entered.result.token.view in
    let v = c.begin.new.hand.token.view in
    let w = c.add_pair-added.new.hand.token.view in
    let x = c.finish.new.hand.token.view in
    let opened = subst (λ (h : HandValue). IsOpened h.token.view v) (sym c.by-entered.ensures)
    c.in_default.ensures.begun.1.opened in
    record {
      left = search rules;
      closed = search rules;
      nodes = search rules;
      raised = raised_kept c.add_pair-added.ensures.raised.0 u v w x opened c.finish.ensures.finished.stretch
          c.add_pair-added.ensures.raised.1;
      uses = search rules;
    }

pub reply-requires-clause-due : goal.reply-requires-clause-due
reply-requires-clause-due c =
    let u = c.by-entered.result.token.view in
    let v = c.begin.new.hand.token.view in
    let w = c.add_pair-added.new.hand.token.view in
    let x = c.finish.new.hand.token.view in
    let opened = subst (λ (h : HandValue). IsOpened h.token.view v) (sym c.by-entered.ensures)
    c.in_default.ensures.begun.1.opened in
    let g = c.in-Present.ensures.added.0 in
    due_at true g.taken u v w x (goes_few true c.begin.new.hand c.add_pair-added.new.hand g) opened g.stretch
    c.finish.ensures.finished.stretch (AddEdge c.args.from c.args.to c.args.weight) (Present c.args.weight)
    (HasPair c.args.from c.args.to c.args.weight) c.in-Present.seen.moment.value.view.front
    (λ j h. gives_present c.args.from c.args.to c.args.weight j h) c.in-Present.ensures.added.1

pub reply-requires-clause-ended : goal.reply-requires-clause-ended
reply-requires-clause-ended c =
    let u = c.by-entered.result.token.view in
    let v = c.begin.new.hand.token.view in
    let w = c.add_pair-added.new.hand.token.view in
    let x = c.finish.new.hand.token.view in
    let opened = subst (λ (h : HandValue). IsOpened h.token.view v) (sym c.by-entered.ensures)
    c.in_default.ensures.begun.1.opened in
    record {
      left = search rules;
      closed = search rules;
      nodes = search rules;
      raised = raised_kept c.add_pair-added.ensures.raised.0 u v w x opened c.finish.ensures.finished.stretch
          c.add_pair-added.ensures.raised.1;
      uses = search rules;
    }

pub reply_lacking-requires-clause-due : goal.reply_lacking-requires-clause-due
reply_lacking-requires-clause-due c =
    let u = c.by-entered.result.token.view in
    let v = c.begin.new.hand.token.view in
    let w = c.add_pair-added.new.hand.token.view in
    let x = c.finish.new.hand.token.view in
    let opened = subst (λ (h : HandValue). IsOpened h.token.view v) (sym c.by-entered.ensures)
    c.in_default.ensures.begun.1.opened in
    let g = c.in-Lacks.ensures.added.0 in
    due_lacking (AddEdge c.args.from c.args.to c.args.weight) true g.taken c.args.from c.args.to u v w x
    (goes_few true c.begin.new.hand c.add_pair-added.new.hand g) opened g.stretch
    c.finish.ensures.finished.stretch c.in-Lacks.lack c.in-Lacks.ensures.added.1.0
    (λ j h. add_lacking c.args.from c.args.to c.args.weight j c.in-Lacks.lack c.in-Lacks.ensures.added.1.1 h)

pub reply_lacking-requires-clause-ended : goal.reply_lacking-requires-clause-ended
reply_lacking-requires-clause-ended c =
    let u = c.by-entered.result.token.view in
    let v = c.begin.new.hand.token.view in
    let w = c.add_pair-added.new.hand.token.view in
    let x = c.finish.new.hand.token.view in
    let opened = subst (λ (h : HandValue). IsOpened h.token.view v) (sym c.by-entered.ensures)
    c.in_default.ensures.begun.1.opened in
    record {
      left = search rules;
      closed = search rules;
      nodes = search rules;
      raised = raised_kept c.add_pair-added.ensures.raised.0 u v w x opened c.finish.ensures.finished.stretch
          c.add_pair-added.ensures.raised.1;
      uses = search rules;
    }

pub reply_full-requires-clause-due : goal.reply_full-requires-clause-due
reply_full-requires-clause-due c =
    let u = c.by-entered.result.token.view in
    let v = c.begin.new.hand.token.view in
    let w = c.add_pair-added.new.hand.token.view in
    let x = c.finish.new.hand.token.view in
    let opened = subst (λ (h : HandValue). IsOpened h.token.view v) (sym c.by-entered.ensures)
    c.in_default.ensures.begun.1.opened in
    let f = c.in-FullAtGap.ensures.added in
    let g = f.on in
    subst (λ (at : List Event). IsDueForFull (AddEdge c.args.from c.args.to c.args.weight) u x at)
    (sym c.moment-place.ensures.moment)
    (due_for_full true g.taken u v w x (goes_few true c.begin.new.hand c.add_pair-added.new.hand g) opened
    g.stretch c.finish.ensures.finished.stretch (AddEdge c.args.from c.args.to c.args.weight)
    c.in-FullAtGap.gap.moment f.then f.needs f.empty)

pub reply_full-requires-clause-ended : goal.reply_full-requires-clause-ended
reply_full-requires-clause-ended c =
    let u = c.by-entered.result.token.view in
    let v = c.begin.new.hand.token.view in
    let w = c.add_pair-added.new.hand.token.view in
    let x = c.finish.new.hand.token.view in
    let opened = subst (λ (h : HandValue). IsOpened h.token.view v) (sym c.by-entered.ensures)
    c.in_default.ensures.begun.1.opened in
    record {
      left = search rules;
      closed = search rules;
      nodes = search rules;
      raised = raised_kept c.add_pair-added.ensures.raised.0 u v w x opened c.finish.ensures.finished.stretch
          c.add_pair-added.ensures.raised.1;
      uses = search rules;
    }

pub reply_full-requires-in-FullAtEdge-clause-due : goal.reply_full-requires-in-FullAtEdge-clause-due
reply_full-requires-in-FullAtEdge-clause-due c =
    let u = c.by-entered.result.token.view in
    let v = c.begin.new.hand.token.view in
    let w = c.add_pair-added.new.hand.token.view in
    let x = c.finish.new.hand.token.view in
    let opened = subst (λ (h : HandValue). IsOpened h.token.view v) (sym c.by-entered.ensures)
    c.in_default.ensures.begun.1.opened in
    let f = c.in-FullAtEdge.ensures.added in
    let g = f.on in
    due_for_full true g.taken u v w x (goes_few true c.begin.new.hand c.add_pair-added.new.hand g) opened
    g.stretch c.finish.ensures.finished.stretch (AddEdge c.args.from c.args.to c.args.weight)
    c.in-FullAtEdge.seen.moment.value.view.front f.then f.needs f.empty

pub reply_full-requires-in-FullAtEdge-clause-ended : goal.reply_full-requires-in-FullAtEdge-clause-ended
reply_full-requires-in-FullAtEdge-clause-ended c =
    let u = c.by-entered.result.token.view in
    let v = c.begin.new.hand.token.view in
    let w = c.add_pair-added.new.hand.token.view in
    let x = c.finish.new.hand.token.view in
    let opened = subst (λ (h : HandValue). IsOpened h.token.view v) (sym c.by-entered.ensures)
    c.in_default.ensures.begun.1.opened in
    record {
      left = search rules;
      closed = search rules;
      nodes = search rules;
      raised = raised_kept c.add_pair-added.ensures.raised.0 u v w x opened c.finish.ensures.finished.stretch
          c.add_pair-added.ensures.raised.1;
      uses = search rules;
    }

pub reply_again-requires-clause-due : goal.reply_again-requires-clause-due
reply_again-requires-clause-due c =
    let u = c.by-entered.result.token.view in
    let v = c.begin.new.hand.token.view in
    let w = c.add_pair-added.new.hand.token.view in
    let x = c.finish.new.hand.token.view in
    let opened = subst (λ (h : HandValue). IsOpened h.token.view v) (sym c.by-entered.ensures)
    c.in_default.ensures.begun.1.opened in
    let g = c.in-Again.ensures.added.0 in
    due_again true g.taken u v w x (goes_few true c.begin.new.hand c.add_pair-added.new.hand g) opened g.stretch
    c.finish.ensures.finished.stretch c.args.tries w.number refl c.in-Again.ensures.added.1

pub reply_again-requires-clause-ended : goal.reply_again-requires-clause-ended
reply_again-requires-clause-ended c =
    let u = c.by-entered.result.token.view in
    let v = c.begin.new.hand.token.view in
    let w = c.add_pair-added.new.hand.token.view in
    let x = c.finish.new.hand.token.view in
    let opened = subst (λ (h : HandValue). IsOpened h.token.view v) (sym c.by-entered.ensures)
    c.in_default.ensures.begun.1.opened in
    record {
      left = search rules;
      closed = search rules;
      nodes = search rules;
      raised = raised_kept c.add_pair-added.ensures.raised.0 u v w x opened c.finish.ensures.finished.stretch
          c.add_pair-added.ensures.raised.1;
      uses = search rules;
    }
