use Rattle.std.proofs.Common.{◌-◌}
use Rattle.core_rule.specs.Stretches.{HasPass}
use Rattle.graph_updates.proofs.AddingAddsUp.{IsAdding}
use Rattle.graph_updates.proofs.adding.add.Given as goal

abbrev pub invariant-loop-moment : goal.invariant-loop-moment
invariant-loop-moment l = record {
  adding : IsAdding l.fn.table l.fn.tries l.lost l.fn.hand l.hand;
  pass : HasPass l.hand.token.view;
}

abbrev pub decreases-loop-moment : goal.decreases-loop-moment
decreases-loop-moment l = l.fn.tries - l.lost
