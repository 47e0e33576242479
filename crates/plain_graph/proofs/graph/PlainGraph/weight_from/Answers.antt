use Rattle.std.proofs.Common.{◌∙◌}
use Rattle.plain_graph.proofs.Steps.{told-looked_up}
use Rattle.plain_graph.proofs.graph.PlainGraph.weight_from.Goals as goal

pub returns : goal.returns
returns c = c.weight_from.ensures ∙ told-looked_up c.self.inside.vertices c.self.inside.sources c.args.self.now
    c.self.view_is c.self.invariant c.args.from c.args.to
