use Rattle.std.proofs.Common.{◌≡◌, ℕ, true, false, sym, subst, ◌∙◌}
use Rattle.std.specs.Prelude.{IfOk}
use Rattle.graph_kinds.specs.Path.{least_cost, cheapest_path}
use Rattle.graph_kinds.specs.Answer.{by_cost}
use Rattle.graph_kinds.proofs.Calls.{and_left}
use Rattle.plain_graph.proofs.Outcomes.{on_ok, after_cheapest, answer_cheapest, cost_alike, ok_below, outcome_below}
use Rattle.plain_graph.proofs.graph.PlainGraph.cheapest.Goals as goal

pub returns-then-not-has_both-clause-answer : goal.returns-then-not-has_both-clause-answer
returns-then-not-has_both-clause-answer c = c.bare.ensures ∙ answer_cheapest _ _ _ false (sym c.if-not-has_both.ensures)

pub returns-then-not-has_both-clause-change : goal.returns-then-not-has_both-clause-change
returns-then-not-has_both-clause-change c = sym (after_cheapest _ _ _)

pub returns-clause-answer : goal.returns-clause-answer
returns-clause-answer c =
    let g = c.args.self.now in
    let from_key = and_left _ _ (sym c.if-not-has_both.ensures) in
    let cost = c.parts_are_answered_alike.ensures.cost g c.args.from c.args.to c.in_ok-scan.ensures.sound from_key in
    let path = λ (w : ℕ). c.parts_are_answered_alike.ensures.cheapest g c.args.from c.args.to w
    c.in_ok-scan.ensures.sound from_key in
    subst (λ x. IfOk c.copied-answer.result (λ a. a ≡ x))
    (c.cheapest-outcome.ensures.answer ∙ ((λ i. by_cost (least_cost (c.in_ok-scan.ensures.graph i)
    (c.in_ok-scan.ensures.root i) c.args.to) (cheapest_path (c.in_ok-scan.ensures.graph i)
    (c.in_ok-scan.ensures.root i) c.args.to))
    ∙ (cost_alike _ _ _ _ cost path ∙ answer_cheapest _ _ _ true (sym c.if-not-has_both.ensures))))
    c.copied-answer.ensures

pub returns-clause-change : goal.returns-clause-change
returns-clause-change c = on_ok _ _ (c.keep_scan.ensures ∙ (c.in_ok-scan.ensures.same ∙ sym (after_cheapest _ _ _)))

pub returns-clause-bounded : goal.returns-clause-bounded
returns-clause-bounded c = ok_below _ c.copied-answer.result _ c.copied-answer.ensures
    (outcome_below _ _ c.cheapest-outcome.ensures.bounded)
