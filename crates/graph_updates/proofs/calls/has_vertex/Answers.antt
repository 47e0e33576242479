use Rattle.std.proofs.Common.{List, arith, subst, sym, false}
use Rattle.graph_kinds.specs.declared.call.Call.TheVariants.{HasVertex}
use Rattle.graph_kinds.specs.declared.outcome.Outcome.TheVariants.{No, Yes}
use Rattle.core_journal.specs.declared.event.Event.{Event}
use Rattle.core_stretches.specs.Moments.{Has, Lacks}
use Rattle.core_stretches.proofs.MakesTell.{makes_later}
use Rattle.epoch_limbo.specs.Passes.{IsOpened}
use Rattle.graph_updates.specs.Hands.{HandValue}
use Rattle.graph_updates.specs.Replying.{IsDueAt}
use Rattle.graph_updates.proofs.CallsGo.{due_again, due_at, gives_no, gives_yes}
use Rattle.graph_updates.proofs.PartsLeave.{helps_leave}
use Rattle.graph_updates.proofs.SeekingSteps.{helps_pass}
use Rattle.graph_updates.proofs.calls.has_vertex.Goals as goal
use Rattle.std.proofs.Common.{rules}
use Rattle.graph_updates.proofs.RaisesAddUp.{raised_call}

pub finish-requires-clause-pass : goal.finish-requires-clause-pass
finish-requires-clause-pass c = helps_pass c.begin.new.hand.token.view c.locate-located.new.hand.token.view
    c.begin.ensures.hand.of.layout c.locate-located.ensures.helped.helped.only
    c.in_default.ensures.begun.1.opened.opened

pub reply-requires-clause-due : goal.reply-requires-clause-due
reply-requires-clause-due c =
    let v = c.begin.new.hand.token.view in
    let w = c.locate-located.new.hand.token.view in
    let opened = subst (λ (h : HandValue). IsOpened h.token.view v) (sym c.by-entered.ensures)
    c.in_default.ensures.begun.1.opened in
    due_at false 0 c.by-entered.result.token.view v w c.finish.new.hand.token.view (omega arith) opened
    (helps_leave false v w c.locate-located.ensures.helped.helped.only) c.finish.ensures.finished.stretch
    (HasVertex c.args.key) Yes (Has c.args.key c.in-Here.seen.life) c.in-Here.seen.moment.value.view.front
    (λ j h. gives_yes c.args.key c.in-Here.seen.life j h) c.in-Here.ensures.located.1.there

pub reply-requires-in-Gone-clause-due : goal.reply-requires-in-Gone-clause-due
reply-requires-in-Gone-clause-due c =
    let u = c.by-entered.result.token.view in
    let v = c.begin.new.hand.token.view in
    let w = c.locate-located.new.hand.token.view in
    let x = c.finish.new.hand.token.view in
    let opened = subst (λ (h : HandValue). IsOpened h.token.view v) (sym c.by-entered.ensures)
    c.in_default.ensures.begun.1.opened in
    subst (λ (at : List Event). IsDueAt (HasVertex c.args.key) No u x at) (sym c.moment.ensures.moment)
    (due_at false 0 u v w x (omega arith) opened (helps_leave false v w c.locate-located.ensures.helped.helped.only)
    c.finish.ensures.finished.stretch (HasVertex c.args.key) No (Lacks c.args.key) c.in-Gone.gap.moment
    (λ j l. gives_no c.args.key j l) c.in-Gone.ensures.located.1.there)

pub reply_again-requires-clause-due : goal.reply_again-requires-clause-due
reply_again-requires-clause-due c =
    let v = c.begin.new.hand.token.view in
    let w = c.locate-located.new.hand.token.view in
    let opened = subst (λ (h : HandValue). IsOpened h.token.view v) (sym c.by-entered.ensures)
    c.in_default.ensures.begun.1.opened in
    due_again false 0 c.by-entered.result.token.view v w c.finish.new.hand.token.view (omega arith) opened
    (helps_leave false v w c.locate-located.ensures.helped.helped.only) c.finish.ensures.finished.stretch c.args.tries
    v.number (sym (makes_later v w _ c.locate-located.ensures.helped.helped.only.makes).number)
    (let f = c.in-Again.ensures.fell.least in let all = c.in-Again.ensures.located in
    record { least = omega (arith, f, all) })

pub reply-requires-clause-ended : goal.reply-requires-clause-ended
reply-requires-clause-ended c =
    let u = c.by-entered.result.token.view in
    let v = c.begin.new.hand.token.view in
    let w = c.locate-located.new.hand.token.view in
    let x = c.finish.new.hand.token.view in
    let opened = subst (λ (h : HandValue). IsOpened h.token.view v) (sym c.by-entered.ensures)
    c.in_default.ensures.begun.1.opened in
    record {
      left = search rules;
      closed = search rules;
      nodes = search rules;
      raised = raised_call 0 u v w x opened c.finish.ensures.finished.stretch
          (helps_leave false v w c.locate-located.ensures.helped.helped.only);
      uses = search rules;
    }

pub reply-requires-in-Gone-clause-ended : goal.reply-requires-in-Gone-clause-ended
reply-requires-in-Gone-clause-ended c =
    let u = c.by-entered.result.token.view in
    let v = c.begin.new.hand.token.view in
    let w = c.locate-located.new.hand.token.view in
    let x = c.finish.new.hand.token.view in
    let opened = subst (λ (h : HandValue). IsOpened h.token.view v) (sym c.by-entered.ensures)
    c.in_default.ensures.begun.1.opened in
    record {
      left = search rules;
      closed = search rules;
      nodes = search rules;
      raised = raised_call 0 u v w x opened c.finish.ensures.finished.stretch
          (helps_leave false v w c.locate-located.ensures.helped.helped.only);
      uses = search rules;
    }

pub reply_again-requires-clause-ended : goal.reply_again-requires-clause-ended
reply_again-requires-clause-ended c =
    let u = c.by-entered.result.token.view in
    let v = c.begin.new.hand.token.view in
    let w = c.locate-located.new.hand.token.view in
    let x = c.finish.new.hand.token.view in
    let opened = subst (λ (h : HandValue). IsOpened h.token.view v) (sym c.by-entered.ensures)
    c.in_default.ensures.begun.1.opened in
    record {
      left = search rules;
      closed = search rules;
      nodes = search rules;
      raised = raised_call 0 u v w x opened c.finish.ensures.finished.stretch
          (helps_leave false v w c.locate-located.ensures.helped.helped.only);
      uses = search rules;
    }
