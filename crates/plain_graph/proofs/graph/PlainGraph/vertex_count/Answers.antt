use Rattle.std.proofs.Common.{sym, ap, ◌∙◌, arith}
use Rattle.graph_kinds.specs.Graph.{key_count}
use Rattle.plain_graph.proofs.Held.{key_count-held}
use Rattle.plain_graph.proofs.graph.PlainGraph.vertex_count.Goals as goal

pub overflow_cast-result : goal.overflow_cast-result
overflow_cast-result c = omega (
  arith,
  key_count-held c.self.inside.vertices c.self.invariant.kept.rising.outer,
  c.self.invariant.kept.few,
  c.len.ensures.len,
)

pub returns-clause-count : goal.returns-clause-count
returns-clause-count c = c.len.ensures.len ∙ (sym (key_count-held c.self.inside.vertices
    c.self.invariant.kept.rising.outer) ∙ ap key_count c.self.view_is)
