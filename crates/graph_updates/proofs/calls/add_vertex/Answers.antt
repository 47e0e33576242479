use Rattle.std.proofs.Common.{◌≤◌, List, None, Option, Some, arith, refl, subst, sym, false}
use Rattle.packed_link.specs.declared.link.Life.{Life}
use Rattle.graph_kinds.specs.declared.call.Call.TheVariants.{AddVertex}
use Rattle.graph_kinds.specs.declared.outcome.Outcome.TheVariants.{Added, Present}
use Rattle.core_journal.specs.declared.event.Event.{Event}
use Rattle.core_journal.specs.GraphOf.{graph_of}
use Rattle.core_stretches.specs.Moments.{Has}
use Rattle.epoch_limbo.specs.Passes.{IsOpened}
use Rattle.graph_updates.specs.Hands.{HandValue}
use Rattle.graph_updates.specs.Parts.{may_take}
use Rattle.graph_updates.specs.Replying.{IsDueForFull}
use Rattle.graph_updates.proofs.CallsGo.{adding_moves, due_again, due_at, due_by_change, due_full, gives_present}
use Rattle.graph_updates.proofs.CallsGo.{goes_few, may_one, may_pop, was_added}
use Rattle.graph_updates.proofs.calls.add_vertex.Goals as goal
use Rattle.std.proofs.Common.{rules}
use Rattle.graph_updates.proofs.RaisesAddUp.{raised_call, raised_carried}

pub add-added-requires-clause-limit : goal.add-added-requires-clause-limit
add-added-requires-clause-limit c =
    let few = may_pop c.args.hand.now c.begin.new.hand.token.view c.requires.order c.in_default.ensures.begun.0
    c.in_default.ensures.begun.1.opened in
    let one = takes_few c.begin.new.hand.spare in
    omega (arith, few, one)
  where
    takes_few : (s : Option Life) → may_take s ≤ 1
    takes_few None = omega arith
    takes_few (Some x) = omega arith

pub finish-requires-clause-limit : goal.finish-requires-clause-limit
finish-requires-clause-limit c = adding_moves c.args.hand.now c.begin.new.hand c.add-added.new.hand c.requires.order
    c.in_default.ensures.begun.0 c.in_default.ensures.begun.1.opened c.add-added.result c.args.key c.args.tries
    c.add-added.ensures.added

pub reply_to_change-requires-clause-due : goal.reply_to_change-requires-clause-due
reply_to_change-requires-clause-due c =
    let u = c.by-entered.result.token.view in
    let v = c.begin.new.hand.token.view in
    let w = c.add-added.new.hand.token.view in
    let x = c.finish.new.hand.token.view in
    let opened = subst (λ (h : HandValue). IsOpened h.token.view v) (sym c.by-entered.ensures)
    c.in_default.ensures.begun.1.opened in
    let h = c.in-Linked.ensures.added.carries in
    due_by_change false (AddVertex c.args.key) Added (may_take c.begin.new.hand.spare) u v w x
    c.in-Linked.moment.value.view.front (may_one c.begin.new.hand.spare) opened h c.finish.ensures.finished.stretch refl
    (was_added c.args.key (graph_of h.carries.past) h.carries.alters)

pub reply-requires-clause-due : goal.reply-requires-clause-due
reply-requires-clause-due c =
    let u = c.by-entered.result.token.view in
    let v = c.begin.new.hand.token.view in
    let w = c.add-added.new.hand.token.view in
    let x = c.finish.new.hand.token.view in
    let opened = subst (λ (h : HandValue). IsOpened h.token.view v) (sym c.by-entered.ensures)
    c.in_default.ensures.begun.1.opened in
    let g = c.in-There.ensures.added.0 in
    due_at false g.taken u v w x (goes_few false c.begin.new.hand c.add-added.new.hand g) opened g.stretch
    c.finish.ensures.finished.stretch (AddVertex c.args.key) (Present 0) (Has c.args.key c.in-There.seen.life)
    c.in-There.seen.moment.value.view.front (λ j h. gives_present c.args.key c.in-There.seen.life j h)
    c.in-There.ensures.added.1.there

pub reply_full-requires-clause-due : goal.reply_full-requires-clause-due
reply_full-requires-clause-due c =
    let u = c.by-entered.result.token.view in
    let v = c.begin.new.hand.token.view in
    let w = c.add-added.new.hand.token.view in
    let x = c.finish.new.hand.token.view in
    let opened = subst (λ (h : HandValue). IsOpened h.token.view v) (sym c.by-entered.ensures)
    c.in_default.ensures.begun.1.opened in
    let g = c.in-Full.ensures.added.on in
    subst (λ (at : List Event). IsDueForFull (AddVertex c.args.key) u x at) (sym c.moment.ensures.moment)
    (due_full false g.taken u v w x (goes_few false c.begin.new.hand c.add-added.new.hand g) opened g.stretch
    c.finish.ensures.finished.stretch c.args.key c.in-Full.gap.moment c.in-Full.ensures.added.gone.there
    c.in-Full.ensures.added.empty)

pub reply_again-requires-clause-due : goal.reply_again-requires-clause-due
reply_again-requires-clause-due c =
    let u = c.by-entered.result.token.view in
    let v = c.begin.new.hand.token.view in
    let w = c.add-added.new.hand.token.view in
    let x = c.finish.new.hand.token.view in
    let opened = subst (λ (h : HandValue). IsOpened h.token.view v) (sym c.by-entered.ensures)
    c.in_default.ensures.begun.1.opened in
    let g = c.in-Again.ensures.added.0 in
    due_again false g.taken u v w x (goes_few false c.begin.new.hand c.add-added.new.hand g) opened g.stretch
    c.finish.ensures.finished.stretch c.args.tries w.number refl c.in-Again.ensures.added.1

pub reply_to_change-requires-clause-ended : goal.reply_to_change-requires-clause-ended
reply_to_change-requires-clause-ended c =
    let u = c.by-entered.result.token.view in
    let v = c.begin.new.hand.token.view in
    let w = c.add-added.new.hand.token.view in
    let x = c.finish.new.hand.token.view in
    let opened = subst (λ (h : HandValue). IsOpened h.token.view v) (sym c.by-entered.ensures)
    c.in_default.ensures.begun.1.opened in
    record {
      left = search rules;
      closed = search rules;
      nodes = search rules;
      raised = raised_carried (may_take c.begin.new.hand.spare) u v w x opened
          c.finish.ensures.finished.stretch (AddVertex c.args.key) c.in-Linked.moment.value.view.front
          c.in-Linked.ensures.added.carries;
      uses = search rules;
    }

pub reply-requires-clause-ended : goal.reply-requires-clause-ended
reply-requires-clause-ended c =
    let u = c.by-entered.result.token.view in
    let v = c.begin.new.hand.token.view in
    let w = c.add-added.new.hand.token.view in
    let x = c.finish.new.hand.token.view in
    let opened = subst (λ (h : HandValue). IsOpened h.token.view v) (sym c.by-entered.ensures)
    c.in_default.ensures.begun.1.opened in
    record {
      left = search rules;
      closed = search rules;
      nodes = search rules;
      raised = raised_call c.in-There.ensures.added.0.taken u v w x opened c.finish.ensures.finished.stretch
          c.in-There.ensures.added.0.stretch;
      uses = search rules;
    }

pub reply_full-requires-clause-ended : goal.reply_full-requires-clause-ended
reply_full-requires-clause-ended c =
    let u = c.by-entered.result.token.view in
    let v = c.begin.new.hand.token.view in
    let w = c.add-added.new.hand.token.view in
    let x = c.finish.new.hand.token.view in
    let opened = subst (λ (h : HandValue). IsOpened h.token.view v) (sym c.by-entered.ensures)
    c.in_default.ensures.begun.1.opened in
    record {
      left = search rules;
      closed = search rules;
      nodes = search rules;
      raised = raised_call c.in-Full.ensures.added.on.taken u v w x opened c.finish.ensures.finished.stretch
          c.in-Full.ensures.added.on.stretch;
      uses = search rules;
    }

pub reply_again-requires-clause-ended : goal.reply_again-requires-clause-ended
reply_again-requires-clause-ended c =
    let u = c.by-entered.result.token.view in
    let v = c.begin.new.hand.token.view in
    let w = c.add-added.new.hand.token.view in
    let x = c.finish.new.hand.token.view in
    let opened = subst (λ (h : HandValue). IsOpened h.token.view v) (sym c.by-entered.ensures)
    c.in_default.ensures.begun.1.opened in
    record {
      left = search rules;
      closed = search rules;
      nodes = search rules;
      raised = raised_call c.in-Again.ensures.added.0.taken u v w x opened c.finish.ensures.finished.stretch
          c.in-Again.ensures.added.0.stretch;
      uses = search rules;
    }
