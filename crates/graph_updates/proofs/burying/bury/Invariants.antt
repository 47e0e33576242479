use Rattle.std.proofs.Common.{◌-◌, length}
use Rattle.graph_table.specs.Tokens.{IsOf}
use Rattle.graph_updates.proofs.BurialSteps.{Buries}
use Rattle.graph_updates.proofs.burying.bury.Given as goal

abbrev pub invariant-loop-edge : goal.invariant-loop-edge
invariant-loop-edge l = record {
  of : IsOf l.fn.table l.token;
  buries : Buries l.fn.token.view l.spent l.fn.limbo l.limbo l.token.view l.frozen;
}

abbrev pub decreases-loop-edge : goal.decreases-loop-edge
decreases-loop-edge l = l.limbo.room - length l.limbo.nodes
