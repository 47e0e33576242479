use Rattle.std.proofs.Common.{length}
use Rattle.graph_updates.proofs.GivingTells.{IsGivingRipe}
use Rattle.graph_updates.proofs.ending.give_ripe.Given as goal

abbrev pub invariant-loop : goal.invariant-loop
invariant-loop l = IsGivingRipe l.fn.table l.epoch l.fn.limbo l.limbo l.fn.token.view l.token

abbrev pub decreases-loop : goal.decreases-loop
decreases-loop l = length l.limbo.nodes
