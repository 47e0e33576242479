use Rattle.std.proofs.Common.{ap, sym, ◌∙◌}
use Rattle.graph_kinds.specs.Graph.{Graph, has}
use Rattle.plain_graph.proofs.Held.{has-held}
use Rattle.plain_graph.proofs.graph.PlainGraph.has.Goals as goal

pub returns : goal.returns
returns c = c.contains_key.ensures ∙ (sym (has-held c.self.inside.vertices c.args.key) ∙ ap
    (λ (g : Graph). has g c.args.key) c.self.view_is)
