use Rattle.std.proofs.Common.{◌≡◌, ◌&&◌, cond, true, false, Some, None, sym, ap, ◌∙◌}
use Rattle.graph_kinds.specs.declared.outcome.Outcome.TheVariants as out
use Rattle.graph_kinds.specs.Graph.{Graph, has, weight_of}
use Rattle.plain_graph.proofs.Changes.{absent-cut_edge}
use Rattle.plain_graph.proofs.Outcomes.{after_outcome, answer_remove_edge, both_there, no_edge_removed, no_edge_left}
use Rattle.plain_graph.proofs.Outcomes.{source_there, source_gone, no_edge_from, by_source, by_target}
use Rattle.plain_graph.proofs.graph.PlainGraph.remove_edge.Goals as goal

-- the source is no key
gone : (c : goal.In_default) → has c.args.self.now c.args.from ≡ false
gone c = source_gone _ _ _ c.cut_edge.ensures.was c.in_default.is

none : (c : goal.In_default) → weight_of c.args.self.now c.args.from c.args.to ≡ None
none c = no_edge_from _ _ _ c.allocator.ensures.sound (gone c)

pub returns-in_default-clause-answer : goal.returns-in_default-clause-answer
returns-in_default-clause-answer c = no_edge_removed c.args.self.now c.args.from c.args.to (none c) out.NoVertex
    (by_source _ _ (gone c))

pub returns-in_default-clause-change : goal.returns-in_default-clause-change
returns-in_default-clause-change c = c.cut_edge.ensures.cut
    ∙ (absent-cut_edge c.args.self.now c.args.from c.args.to (none c)
    ∙ no_edge_left c.args.self.now c.args.from c.args.to (none c) out.NoVertex (by_source _ _ (gone c)))

-- the edge was there
there : (c : goal.In-Some-before) → weight_of c.args.self.now c.args.from c.args.to ≡ Some c.in-Some-before.weight
there c = sym (source_there _ _ _ _ c.cut_edge.ensures.was c.in-Some.is).1 ∙ c.in-Some-before.is

pub returns-in-Some-before-clause-answer : goal.returns-in-Some-before-clause-answer
returns-in-Some-before-clause-answer c = answer_remove_edge _ _ _ true (Some c.in-Some-before.weight)
    (both_there _ _ _ _ c.allocator.ensures.sound (there c)) (there c)

pub returns-in-Some-before-clause-change : goal.returns-in-Some-before-clause-change
returns-in-Some-before-clause-change c = c.cut_edge.ensures.cut
    ∙ after_outcome _ _ (out.Removed c.in-Some-before.weight)
    (answer_remove_edge _ _ _ true (Some c.in-Some-before.weight)
    (both_there _ _ _ _ c.allocator.ensures.sound (there c)) (there c))

-- nothing was cut
unlinked : (c : goal.After-without_edge) → weight_of c.args.self.now c.args.from c.args.to ≡ None
unlinked c = sym (source_there _ _ _ _ c.cut_edge.ensures.was c.in-Some.is).1 ∙ c.in-None.is

same : (c : goal.After-without_edge) → c.cut_edge.new.self ≡ c.args.self.now
same c = c.cut_edge.ensures.cut ∙ absent-cut_edge c.args.self.now c.args.from c.args.to (unlinked c)

by_keys : (c : goal.After-without_edge) → c.without_edge.result ≡ cond
    (has c.args.self.now c.args.from && has c.args.self.now c.args.to) out.NoEdge out.NoVertex
by_keys c = by_target _ _ _ (source_there _ _ _ _ c.cut_edge.ensures.was c.in-Some.is).0
    (c.without_edge.ensures ∙ ap (λ (g : Graph). cond (has g c.args.to) out.NoEdge out.NoVertex) (same c))

pub returns-in-None-clause-answer : goal.returns-in-None-clause-answer
returns-in-None-clause-answer c = no_edge_removed _ _ _ (unlinked c) _ (by_keys c)

pub returns-in-None-clause-change : goal.returns-in-None-clause-change
returns-in-None-clause-change c = same c ∙ no_edge_left _ _ _ (unlinked c) _ (by_keys c)
