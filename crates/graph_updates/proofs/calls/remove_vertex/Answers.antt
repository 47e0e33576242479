use Rattle.std.proofs.Common.{List, arith, refl, subst, sym, false}
use Rattle.graph_kinds.specs.declared.call.Call.TheVariants.{RemoveVertex}
use Rattle.graph_kinds.specs.declared.outcome.Outcome.TheVariants.{Absent, Removed}
use Rattle.core_journal.specs.declared.event.Event.{Event}
use Rattle.core_journal.specs.GraphOf.{graph_of}
use Rattle.core_stretches.specs.Moments.{Lacks}
use Rattle.epoch_limbo.specs.Passes.{IsOpened}
use Rattle.graph_updates.specs.Hands.{HandValue}
use Rattle.graph_updates.specs.Replying.{IsDueAt}
use Rattle.graph_updates.proofs.CallsGo.{absent_where, due_again, due_at, due_at_mark, due_by_change, gives_absent}
use Rattle.graph_updates.proofs.CallsGo.{goes_few}
use Rattle.graph_updates.proofs.CallsGo.{removing_moves, was_removed}
use Rattle.graph_updates.proofs.calls.remove_vertex.Goals as goal
use Rattle.std.proofs.Common.{rules}
use Rattle.graph_updates.proofs.RaisesAddUp.{raised_call, raised_carried}

pub finish-requires-clause-limit : goal.finish-requires-clause-limit
finish-requires-clause-limit c = removing_moves c.args.hand.now c.begin.new.hand c.remove-removed.new.hand
    c.requires.order c.in_default.ensures.begun.0 c.in_default.ensures.begun.1.opened c.remove-removed.result c.args.key
    c.args.tries c.remove-removed.ensures.removed

pub reply_to_change-requires-clause-due : goal.reply_to_change-requires-clause-due
reply_to_change-requires-clause-due c =
    let u = c.by-entered.result.token.view in
    let v = c.begin.new.hand.token.view in
    let w = c.remove-removed.new.hand.token.view in
    let x = c.finish.new.hand.token.view in
    let opened = subst (λ (h : HandValue). IsOpened h.token.view v) (sym c.by-entered.ensures)
    c.in_default.ensures.begun.1.opened in
    let h = c.in-Marked.ensures.removed.carries in
    due_by_change false (RemoveVertex c.args.key) (Removed 0) 0 u v w x c.in-Marked.moment.value.view.front (omega
    arith)
    opened h c.finish.ensures.finished.stretch refl
    (was_removed c.args.key (graph_of h.carries.past) h.carries.alters)

pub reply_after_mark-requires-clause-due : goal.reply_after_mark-requires-clause-due
reply_after_mark-requires-clause-due c =
    let u = c.by-entered.result.token.view in
    let v = c.begin.new.hand.token.view in
    let w = c.remove-removed.new.hand.token.view in
    let x = c.finish.new.hand.token.view in
    let opened = subst (λ (h : HandValue). IsOpened h.token.view v) (sym c.by-entered.ensures)
    c.in_default.ensures.begun.1.opened in
    let r = c.in-WasMarked.ensures.removed in
    let g = r.on in
    due_at_mark false g.taken u v w x (goes_few false c.begin.new.hand c.remove-removed.new.hand g) opened g.stretch
    c.finish.ensures.finished.stretch (RemoveVertex c.args.key) Absent c.args.key c.in-WasMarked.life r.then r.there
    r.marked (λ journal none. absent_where c.args.key journal none)

pub reply-requires-clause-due : goal.reply-requires-clause-due
reply-requires-clause-due c =
    let u = c.by-entered.result.token.view in
    let v = c.begin.new.hand.token.view in
    let w = c.remove-removed.new.hand.token.view in
    let x = c.finish.new.hand.token.view in
    let opened = subst (λ (h : HandValue). IsOpened h.token.view v) (sym c.by-entered.ensures)
    c.in_default.ensures.begun.1.opened in
    let g = c.in-Gone.ensures.removed.0 in
    subst (λ (at : List Event). IsDueAt (RemoveVertex c.args.key) Absent u x at) (sym c.moment.ensures.moment)
    (due_at false g.taken u v w x (goes_few false c.begin.new.hand c.remove-removed.new.hand g) opened g.stretch
    c.finish.ensures.finished.stretch (RemoveVertex c.args.key) Absent (Lacks c.args.key) c.in-Gone.gap.moment
    (λ j l. gives_absent c.args.key j l) c.in-Gone.ensures.removed.1.there)

pub reply_again-requires-clause-due : goal.reply_again-requires-clause-due
reply_again-requires-clause-due c =
    let u = c.by-entered.result.token.view in
    let v = c.begin.new.hand.token.view in
    let w = c.remove-removed.new.hand.token.view in
    let x = c.finish.new.hand.token.view in
    let opened = subst (λ (h : HandValue). IsOpened h.token.view v) (sym c.by-entered.ensures)
    c.in_default.ensures.begun.1.opened in
    let g = c.in-Again.ensures.removed.0 in
    due_again false g.taken u v w x (goes_few false c.begin.new.hand c.remove-removed.new.hand g) opened g.stretch
    c.finish.ensures.finished.stretch c.args.tries w.number refl c.in-Again.ensures.removed.1

pub reply_to_change-requires-clause-ended : goal.reply_to_change-requires-clause-ended
reply_to_change-requires-clause-ended c =
    let u = c.by-entered.result.token.view in
    let v = c.begin.new.hand.token.view in
    let w = c.remove-removed.new.hand.token.view in
    let x = c.finish.new.hand.token.view in
    let opened = subst (λ (h : HandValue). IsOpened h.token.view v) (sym c.by-entered.ensures)
    c.in_default.ensures.begun.1.opened in
    record {
      left = search rules;
      closed = search rules;
      nodes = search rules;
      raised = raised_carried 0 u v w x opened c.finish.ensures.finished.stretch (RemoveVertex c.args.key)
          c.in-Marked.moment.value.view.front c.in-Marked.ensures.removed.carries;
      uses = search rules;
    }

pub reply_after_mark-requires-clause-ended : goal.reply_after_mark-requires-clause-ended
reply_after_mark-requires-clause-ended c =
    let u = c.by-entered.result.token.view in
    let v = c.begin.new.hand.token.view in
    let w = c.remove-removed.new.hand.token.view in
    let x = c.finish.new.hand.token.view in
    let opened = subst (λ (h : HandValue). IsOpened h.token.view v) (sym c.by-entered.ensures)
    c.in_default.ensures.begun.1.opened in
    record {
      left = search rules;
      closed = search rules;
      nodes = search rules;
      raised = raised_call c.in-WasMarked.ensures.removed.on.taken u v w x opened c.finish.ensures.finished.stretch
          c.in-WasMarked.ensures.removed.on.stretch;
      uses = search rules;
    }

pub reply-requires-clause-ended : goal.reply-requires-clause-ended
reply-requires-clause-ended c =
    let u = c.by-entered.result.token.view in
    let v = c.begin.new.hand.token.view in
    let w = c.remove-removed.new.hand.token.view in
    let x = c.finish.new.hand.token.view in
    let opened = subst (λ (h : HandValue). IsOpened h.token.view v) (sym c.by-entered.ensures)
    c.in_default.ensures.begun.1.opened in
    record {
      left = search rules;
      closed = search rules;
      nodes = search rules;
      raised = raised_call c.in-Gone.ensures.removed.0.taken u v w x opened c.finish.ensures.finished.stretch
          c.in-Gone.ensures.removed.0.stretch;
      uses = search rules;
    }

pub reply_again-requires-clause-ended : goal.reply_again-requires-clause-ended
reply_again-requires-clause-ended c =
    let u = c.by-entered.result.token.view in
    let v = c.begin.new.hand.token.view in
    let w = c.remove-removed.new.hand.token.view in
    let x = c.finish.new.hand.token.view in
    let opened = subst (λ (h : HandValue). IsOpened h.token.view v) (sym c.by-entered.ensures)
    c.in_default.ensures.begun.1.opened in
    record {
      left = search rules;
      closed = search rules;
      nodes = search rules;
      raised = raised_call c.in-Again.ensures.removed.0.taken u v w x opened c.finish.ensures.finished.stretch
          c.in-Again.ensures.removed.0.stretch;
      uses = search rules;
    }
