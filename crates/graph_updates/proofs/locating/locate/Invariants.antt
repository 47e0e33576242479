use Rattle.std.proofs.Common.{◌-◌}
use Rattle.graph_updates.proofs.LocatingTells.{IsLocating}
use Rattle.graph_updates.proofs.locating.locate.Given as goal

abbrev pub invariant-loop-seen : goal.invariant-loop-seen
invariant-loop-seen l = IsLocating l.fn.table l.fn.lost l.fn.tries l.lost l.fn.hand l.hand

abbrev pub decreases-loop-seen : goal.decreases-loop-seen
decreases-loop-seen l = l.fn.tries - l.lost
