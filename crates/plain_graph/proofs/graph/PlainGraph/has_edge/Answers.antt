use Rattle.std.proofs.Common.{◌≡◌, true, false, Some, refl, sym, ◌∙◌}
use Rattle.graph_kinds.specs.Graph.{weight_of}
use Rattle.plain_graph.proofs.Outcomes.{after_has_edge, answer_has_edge, both_there, no_edge_there, by_target}
use Rattle.plain_graph.proofs.Outcomes.{source_there, source_gone, lacks_source}
use Rattle.plain_graph.proofs.graph.PlainGraph.has_edge.Goals as goal

pub returns-in_default-clause-answer : goal.returns-in_default-clause-answer
returns-in_default-clause-answer c = answer_has_edge c.args.self.now c.args.from c.args.to false
    (weight_of c.args.self.now c.args.from c.args.to)
    (lacks_source _ _ (source_gone _ _ _ c.weight_from.ensures c.in_default.is)) refl

pub returns-in_default-clause-change : goal.returns-in_default-clause-change
returns-in_default-clause-change c = sym (after_has_edge _ _ _)

pub returns-in-Some-held-clause-answer : goal.returns-in-Some-held-clause-answer
returns-in-Some-held-clause-answer c =
    let there : weight_of c.args.self.now c.args.from c.args.to ≡ Some c.in-Some-held.weight =
    sym (source_there _ _ _ _ c.weight_from.ensures c.in-Some.is).1 ∙ c.in-Some-held.is in
    answer_has_edge _ _ _ true (Some c.in-Some-held.weight) (both_there _ _ _ _ c.allocator.ensures.sound there) there

pub returns-in-Some-held-clause-change : goal.returns-in-Some-held-clause-change
returns-in-Some-held-clause-change c = sym (after_has_edge _ _ _)

pub returns-in-None-clause-answer : goal.returns-in-None-clause-answer
returns-in-None-clause-answer c =
    let source = source_there _ _ _ _ c.weight_from.ensures c.in-Some.is in
    no_edge_there c.args.self.now c.args.from c.args.to (sym source.1 ∙ c.in-None.is) _
    (by_target _ _ _ source.0 c.without_edge.ensures)

pub returns-in-None-clause-change : goal.returns-in-None-clause-change
returns-in-None-clause-change c = sym (after_has_edge _ _ _)
