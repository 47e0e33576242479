use Rattle.std.proofs.Common.{◌≡◌, Bool, true, false, not, sym, ◌∙◌, true≢false, refl}
use Rattle.graph_kinds.specs.declared.outcome.Outcome.TheVariants as out
use Rattle.plain_graph.proofs.Changes.{there-add_vertex}
use Rattle.plain_graph.proofs.Outcomes.{after_outcome, answer_add_vertex}
use Rattle.plain_graph.proofs.graph.PlainGraph.add_vertex.Goals as goal

not-true : (b : Bool) → true ≡ not b → b ≡ false
not-true true e = absurd (true≢false e)
not-true false e = refl

not-false : (b : Bool) → false ≡ not b → b ≡ true
not-false true e = refl
not-false false e = absurd (true≢false (sym e))

pub returns-then-fresh-clause-answer : goal.returns-then-fresh-clause-answer
returns-then-fresh-clause-answer c = answer_add_vertex _ _ false
    (not-true _ (sym c.if-fresh.true ∙ c.in_ok-fresh.ensures.fresh))

pub returns-then-fresh-clause-change : goal.returns-then-fresh-clause-change
returns-then-fresh-clause-change c = c.in_ok-fresh.ensures.ok ∙ after_outcome _ _ out.Added
    (answer_add_vertex _ _ false (not-true _ (sym c.if-fresh.true ∙ c.in_ok-fresh.ensures.fresh)))

pub returns-else-fresh-clause-answer : goal.returns-else-fresh-clause-answer
returns-else-fresh-clause-answer c = answer_add_vertex _ _ true
    (not-false _ (sym c.if-fresh.false ∙ c.in_ok-fresh.ensures.fresh))

pub returns-else-fresh-clause-change : goal.returns-else-fresh-clause-change
returns-else-fresh-clause-change c =
    let there = not-false _ (sym c.if-fresh.false ∙ c.in_ok-fresh.ensures.fresh) in
    c.in_ok-fresh.ensures.ok ∙ (sym (there-add_vertex c.args.self.now c.args.key there) ∙ after_outcome _ _
    (out.Present 0) (answer_add_vertex _ _ true there))
