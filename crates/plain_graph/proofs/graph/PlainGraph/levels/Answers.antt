use Rattle.std.proofs.Common.{◌≡◌, true, false, sym, subst, ap, ◌∙◌}
use Rattle.std.specs.Prelude.{IfOk}
use Rattle.graph_kinds.specs.Levels.{levels_of}
use Rattle.graph_kinds.specs.Answer.{by_levels}
use Rattle.plain_graph.proofs.Outcomes.{on_ok, after_levels, answer_levels}
use Rattle.plain_graph.proofs.graph.PlainGraph.levels.Goals as goal

pub returns-then-not-has-clause-answer : goal.returns-then-not-has-clause-answer
returns-then-not-has-clause-answer c = c.bare.ensures ∙ answer_levels _ _ false (sym c.if-not-has.ensures)

pub returns-then-not-has-clause-change : goal.returns-then-not-has-clause-change
returns-then-not-has-clause-change c = sym (after_levels _ _)

pub returns-clause-answer : goal.returns-clause-answer
returns-clause-answer c =
    let g = c.args.self.now in
    let alike = c.parts_are_answered_alike.ensures.levels g c.args.from c.in_ok-scan.ensures.sound
    (sym c.if-not-has.ensures) in
    subst (λ x. IfOk c.copied-answer.result (λ a. a ≡ x))
    (c.levels-outcome.ensures.answer ∙ ((λ i. by_levels (levels_of (c.in_ok-scan.ensures.graph i)
    (c.in_ok-scan.ensures.root i))) ∙ (ap by_levels alike ∙ answer_levels _ _ true (sym c.if-not-has.ensures))))
    c.copied-answer.ensures

pub returns-clause-change : goal.returns-clause-change
returns-clause-change c = on_ok _ _ (c.keep_scan.ensures ∙ (c.in_ok-scan.ensures.same ∙ sym (after_levels _ _)))
