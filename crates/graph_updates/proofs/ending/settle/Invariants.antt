use Rattle.std.proofs.Common.{◌-◌, ◌<◌}
use Rattle.graph_updates.specs.contracts.hand.Hand.{the_view}
use Rattle.graph_updates.proofs.SettlingTells.{IsSettling}
use Rattle.graph_updates.proofs.ending.settle.Given as goal

abbrev pub invariant-loop-hand : goal.invariant-loop-hand
invariant-loop-hand l = record {
  settling : IsSettling l.fn.table l.fn.hand (the_view l.hand-inside) l.lost;
  low : l.lost < l.tries;
}

abbrev pub decreases-loop-hand : goal.decreases-loop-hand
decreases-loop-hand l = l.tries - l.lost
