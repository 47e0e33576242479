use Rattle.std.proofs.Common.{sym, ap, ◌∙◌}
use Rattle.std.specs.FinMap as finite_map
use Rattle.graph_kinds.specs.Graph.{Graph, sorted_keys}
use Rattle.plain_graph.proofs.Held.{sorted_keys-held, entries-held}
use Rattle.plain_graph.proofs.graph.PlainGraph.vertices.Goals as goal

pub returns-clause-keys : goal.returns-clause-keys
returns-clause-keys c = sym (sorted_keys-held c.self.inside.vertices c.self.invariant.kept.rising.outer)
    ∙ ap sorted_keys c.self.view_is

pub returns-clause-pairs : goal.returns-clause-pairs
returns-clause-pairs c = sym (entries-held c.self.inside.vertices c.self.invariant.kept.rising) ∙ ap
    (λ (g : Graph). finite_map.entries g.pairs) c.self.view_is
