use Rattle.std.proofs.Common.{◌-◌, false}
use Rattle.graph_updates.proofs.TriesAddUp.{IsTrying}
use Rattle.graph_updates.proofs.edge_looking.look_up.Given as goal

abbrev pub invariant-loop-seen : goal.invariant-loop-seen
invariant-loop-seen l = record { trying : IsTrying false l.fn.table l.fn.tries l.lost l.fn.hand l.hand }

abbrev pub decreases-loop-seen : goal.decreases-loop-seen
decreases-loop-seen l = l.fn.tries - l.lost
