use Rattle.std.proofs.Common.{ap, ◌∙◌}
use Rattle.graph_kinds.specs.Graph.{pair_count}
use Rattle.plain_graph.proofs.graph.PlainGraph.edge_count.Goals as goal

pub returns : goal.returns
returns c = c.self.invariant.kept.counted ∙ ap pair_count c.self.view_is
