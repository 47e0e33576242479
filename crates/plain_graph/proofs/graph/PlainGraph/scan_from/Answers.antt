use Rattle.std.proofs.Common.{◌≡◌, ap, sym, subst, ◌∙◌}
use Rattle.std.specs.Prelude.{IfOk}
use Rattle.graph_kinds.specs.Graph.{Graph, has}
use Rattle.graph_kinds.specs.Part.{part}
use Rattle.scan_record.specs.ScanGraph.{graph_of_scan}
use Rattle.plain_graph.proofs.Held.{has-held}
use Rattle.plain_graph.proofs.graph.PlainGraph.scan_from.Goals as goal

pub scan_of_part-requires-clause-held : goal.scan_of_part-requires-clause-held
scan_of_part-requires-clause-held c = sym (has-held c.self.inside.vertices c.args.root) ∙
    (ap (λ (g : Graph). has g c.args.root) c.self.view_is ∙ c.requires)

pub returns-clause-graph : goal.returns-clause-graph
returns-clause-graph c = subst (λ (g : Graph). IfOk c.scan_of_part.result (λ s. graph_of_scan s ≡ part g c.args.root))
    c.self.view_is c.scan_of_part.ensures.graph
