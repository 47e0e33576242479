use Rattle.std.proofs.Common.{◌-◌}
use Rattle.core_rule.specs.Stretches.{spent_since}
use Rattle.graph_updates.proofs.EdgeSeekingSteps.{IsSeekingEdge}
use Rattle.graph_updates.proofs.edge_locating.seek_edge.Given as goal

abbrev pub invariant-loop-seen : goal.invariant-loop-seen
invariant-loop-seen l = IsSeekingEdge l.fn.table l.fn.from l.fn.key l.fn.limbo l.limbo l.fn.token.view l.token
    l.position

abbrev pub decreases-loop-seen : goal.decreases-loop-seen
decreases-loop-seen l = l.token.view.sizes.nodes - spent_since l.token.view
