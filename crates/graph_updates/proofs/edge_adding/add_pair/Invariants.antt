use Rattle.std.proofs.Common.{◌-◌, None, true}
use Rattle.graph_updates.specs.EdgeRaises.{IsRaisedOn, RaisesKept}
use Rattle.graph_updates.proofs.TriesAddUp.{IsTrying}
use Rattle.graph_updates.proofs.edge_adding.add_pair.Given as goal

abbrev pub invariant-loop-outcome : goal.invariant-loop-outcome
invariant-loop-outcome l = record {
  trying : IsTrying true l.fn.table l.fn.tries l.lost l.fn.hand l.hand;
  last : IsRaisedOn l.fn.pair.0 l.fn.pair.1 l.hand.token.view l.raised;
  raised : RaisesKept None l.raised l.fn.hand.token.view l.hand.token.view;
}

abbrev pub decreases-loop-outcome : goal.decreases-loop-outcome
decreases-loop-outcome l = l.fn.tries - l.lost
