use Rattle.std.proofs.Common.{true, false, sym, ◌∙◌}
use Rattle.graph_kinds.specs.declared.outcome.Outcome.TheVariants as out
use Rattle.plain_graph.proofs.Changes.{without-absent}
use Rattle.plain_graph.proofs.Outcomes.{after_outcome, answer_remove_vertex}
use Rattle.plain_graph.proofs.graph.PlainGraph.remove_vertex.Goals as goal

pub returns-then-cut_vertex-clause-answer : goal.returns-then-cut_vertex-clause-answer
returns-then-cut_vertex-clause-answer c = answer_remove_vertex _ _ true (sym c.if-cut_vertex.ensures.was)

pub returns-then-cut_vertex-clause-change : goal.returns-then-cut_vertex-clause-change
returns-then-cut_vertex-clause-change c = c.if-cut_vertex.ensures.cut ∙ after_outcome _ _ (out.Removed 0)
    (answer_remove_vertex _ _ true (sym c.if-cut_vertex.ensures.was))

pub returns-else-cut_vertex-clause-answer : goal.returns-else-cut_vertex-clause-answer
returns-else-cut_vertex-clause-answer c = answer_remove_vertex _ _ false (sym c.if-cut_vertex.ensures.was)

pub returns-else-cut_vertex-clause-change : goal.returns-else-cut_vertex-clause-change
returns-else-cut_vertex-clause-change c = c.if-cut_vertex.ensures.cut ∙
    (without-absent c.args.self.now c.args.key c.if-cut_vertex.ensures.sound (sym c.if-cut_vertex.ensures.was)
    ∙ after_outcome _ _ out.Absent (answer_remove_vertex _ _ false (sym c.if-cut_vertex.ensures.was)))
