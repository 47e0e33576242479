use Rattle.std.proofs.Common.{ap, sym, ◌∙◌}
use Rattle.graph_kinds.specs.Graph.{Graph, weight_of}
use Rattle.plain_graph.specs.Kept.{weight_by}
use Rattle.plain_graph.proofs.Held.{weight-held}
use Rattle.plain_graph.proofs.graph.PlainGraph.weight.Goals as goal

pub returns-in-Some : goal.returns-in-Some
returns-in-Some c = c.copied.ensures ∙ (c.get-in-Some.ensures.value ∙ ap
    (λ x. weight_by x c.args.to) c.in-Some.ensures.value)
    ∙ (sym (weight-held c.self.inside.vertices c.self.invariant.kept.rising.outer c.args.from c.args.to) ∙ ap
    (λ (g : Graph). weight_of g c.args.from c.args.to) c.self.view_is)

pub returns-in-None : goal.returns-in-None
returns-in-None c = ap (λ x. weight_by x c.args.to) c.in-None.ensures.value
    ∙ (sym (weight-held c.self.inside.vertices c.self.invariant.kept.rising.outer c.args.from c.args.to) ∙ ap
    (λ (g : Graph). weight_of g c.args.from c.args.to) c.self.view_is)
