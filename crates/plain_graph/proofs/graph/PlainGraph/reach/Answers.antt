use Rattle.std.proofs.Common.{◌≡◌, true, false, sym, subst, ap, ◌∙◌}
use Rattle.std.specs.Prelude.{IfOk}
use Rattle.graph_kinds.specs.Levels.{reach_path}
use Rattle.graph_kinds.specs.Answer.{by_path}
use Rattle.graph_kinds.proofs.Calls.{and_left}
use Rattle.plain_graph.proofs.Outcomes.{on_ok, after_reach, answer_reach}
use Rattle.plain_graph.proofs.graph.PlainGraph.reach.Goals as goal

pub returns-then-not-has_both-clause-answer : goal.returns-then-not-has_both-clause-answer
returns-then-not-has_both-clause-answer c = c.bare.ensures ∙ answer_reach _ _ _ false (sym c.if-not-has_both.ensures)

pub returns-then-not-has_both-clause-change : goal.returns-then-not-has_both-clause-change
returns-then-not-has_both-clause-change c = sym (after_reach _ _ _)

pub returns-clause-answer : goal.returns-clause-answer
returns-clause-answer c =
    let g = c.args.self.now in
    let alike = c.parts_are_answered_alike.ensures.reach g c.args.from c.args.to c.in_ok-scan.ensures.sound
    (and_left _ _ (sym c.if-not-has_both.ensures)) in
    subst (λ x. IfOk c.copied-answer.result (λ a. a ≡ x))
    (c.reach-outcome.ensures.answer ∙ ((λ i. by_path (reach_path (c.in_ok-scan.ensures.graph i)
    (c.in_ok-scan.ensures.root i) c.args.to)) ∙ (ap by_path alike ∙ answer_reach _ _ _ true
    (sym c.if-not-has_both.ensures))))
    c.copied-answer.ensures

pub returns-clause-change : goal.returns-clause-change
returns-clause-change c = on_ok _ _ (c.keep_scan.ensures ∙ (c.in_ok-scan.ensures.same ∙ sym (after_reach _ _ _)))
