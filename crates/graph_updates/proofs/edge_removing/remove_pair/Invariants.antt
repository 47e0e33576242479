use Rattle.std.proofs.Common.{◌-◌, None, true}
use Rattle.graph_updates.specs.EdgeRaises.{RaisesKept}
use Rattle.graph_updates.specs.EdgeRemoving.{GoesOnBare}
use Rattle.graph_updates.proofs.TriesAddUp.{IsTrying}
use Rattle.graph_updates.proofs.edge_removing.remove_pair.Given as goal

abbrev pub invariant-loop-weight : goal.invariant-loop-weight
invariant-loop-weight l = record {
  trying : IsTrying true l.fn.table l.fn.tries l.lost l.fn.hand l.hand;
  bare : GoesOnBare l.fn.hand l.hand;
  raised : RaisesKept None None l.fn.hand.token.view l.hand.token.view;
}

abbrev pub decreases-loop-weight : goal.decreases-loop-weight
decreases-loop-weight l = l.fn.tries - l.lost
