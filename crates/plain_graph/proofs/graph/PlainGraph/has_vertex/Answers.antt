use Rattle.std.proofs.Common.{true, false, sym}
use Rattle.graph_kinds.specs.declared.outcome.Outcome.TheVariants as out
use Rattle.plain_graph.proofs.Outcomes.{after_outcome, answer_has_vertex}
use Rattle.plain_graph.proofs.graph.PlainGraph.has_vertex.Goals as goal

pub returns-then-has-clause-answer : goal.returns-then-has-clause-answer
returns-then-has-clause-answer c = answer_has_vertex _ _ true (sym c.if-has.ensures)

pub returns-then-has-clause-change : goal.returns-then-has-clause-change
returns-then-has-clause-change c = after_outcome _ _ out.Yes (answer_has_vertex _ _ true (sym c.if-has.ensures))

pub returns-else-has-clause-answer : goal.returns-else-has-clause-answer
returns-else-has-clause-answer c = answer_has_vertex _ _ false (sym c.if-has.ensures)

pub returns-else-has-clause-change : goal.returns-else-has-clause-change
returns-else-has-clause-change c = after_outcome _ _ out.No (answer_has_vertex _ _ false (sym c.if-has.ensures))
