use Rattle.std.proofs.Common.{◌≡◌, false, cond, ap, sym, ◌∙◌}
use Rattle.graph_kinds.specs.declared.call.Call.TheVariants.{AddEdge}
use Rattle.graph_kinds.specs.declared.outcome.Outcome.TheVariants as out
use Rattle.graph_kinds.specs.Graph.{has}
use Rattle.graph_kinds.specs.Answer.{change}
use Rattle.plain_graph.proofs.Changes.{there-add_edge}
use Rattle.plain_graph.proofs.Outcomes.{after_outcome, is_some_of, present_is, replaced_is, replaced_after}
use Rattle.plain_graph.proofs.Outcomes.{lacks_end, lacks_end_left, lacks_source, lacks_target}
use Rattle.plain_graph.proofs.Outcomes.{source_gone, entered_both, entered_weight, entered_graph}
use Rattle.plain_graph.proofs.graph.PlainGraph.add_edge.Goals as goal

pub returns-then-not-has-clause-answer : goal.returns-then-not-has-clause-answer
returns-then-not-has-clause-answer c = lacks_end _ _ _ _ (lacks_target _ _ (sym c.if-not-has.ensures))

pub returns-then-not-has-clause-change : goal.returns-then-not-has-clause-change
returns-then-not-has-clause-change c = lacks_end_left _ _ _ _ (lacks_target _ _ (sym c.if-not-has.ensures))

-- the source is no key
gone : (c : goal.In_default) → has c.args.self.now c.args.from ≡ false
gone c = source_gone _ _ _ c.in_ok-before.ensures.before c.in_default.is

pub returns-in_default-clause-answer : goal.returns-in_default-clause-answer
returns-in_default-clause-answer c = lacks_end _ _ _ _ (lacks_source _ _ (gone c))

pub returns-in_default-clause-change : goal.returns-in_default-clause-change
returns-in_default-clause-change c = c.in_ok-before.ensures.ok
    ∙ (ap (λ t. cond t (change c.args.self.now (AddEdge c.args.from c.args.to c.args.weight)) c.args.self.now) (gone c)
    ∙ lacks_end_left c.args.self.now c.args.from c.args.to c.args.weight (lacks_source _ _ (gone c)))

pub returns-then-eq-clause-answer : goal.returns-then-eq-clause-answer
returns-then-eq-clause-answer c =
    let told = c.in_ok-before.ensures.before in
    let g = c.args.self.now in
    present_is _ _ _ _ _
    (entered_both g g c.args.from c.args.to c.args.weight _ _ told c.in-Some.is (sym c.if-not-has.ensures))
    (entered_weight g g c.args.from c.args.to c.args.weight _ _ told c.in-Some.is) c.if-eq.ensures

pub returns-then-eq-clause-change : goal.returns-then-eq-clause-change
returns-then-eq-clause-change c =
    let told = c.in_ok-before.ensures.before in
    let g = c.args.self.now in
    let both = entered_both g g c.args.from c.args.to c.args.weight _ _ told c.in-Some.is (sym c.if-not-has.ensures) in
    let was = entered_weight g g c.args.from c.args.to c.args.weight _ _ told c.in-Some.is in
    entered_graph g c.enter_edge.new.self c.args.from c.args.to c.args.weight _ _ told c.in-Some.is
    c.in_ok-before.ensures.ok
    ∙ (there-add_edge g c.args.from c.args.to c.args.weight (was ∙ is_some_of _ _ c.if-eq.ensures)
    ∙ after_outcome _ _ (out.Present c.args.weight) (present_is _ _ _ _ _ both was c.if-eq.ensures))

pub returns-clause-answer : goal.returns-clause-answer
returns-clause-answer c =
    let told = c.in_ok-before.ensures.before in
    let g = c.args.self.now in
    replaced_is _ _ _ _ _
    (entered_both g g c.args.from c.args.to c.args.weight _ _ told c.in-Some.is (sym c.if-not-has.ensures))
    (entered_weight g g c.args.from c.args.to c.args.weight _ _ told c.in-Some.is) c.if-eq.ensures _
    c.put_in_place_of.ensures

pub returns-clause-change : goal.returns-clause-change
returns-clause-change c =
    let told = c.in_ok-before.ensures.before in
    let g = c.args.self.now in
    entered_graph g c.enter_edge.new.self c.args.from c.args.to c.args.weight _ _ told c.in-Some.is
    c.in_ok-before.ensures.ok ∙ replaced_after _ _ _ _ _
    (entered_both g g c.args.from c.args.to c.args.weight _ _ told c.in-Some.is (sym c.if-not-has.ensures))
    (entered_weight g g c.args.from c.args.to c.args.weight _ _ told c.in-Some.is) c.if-eq.ensures
