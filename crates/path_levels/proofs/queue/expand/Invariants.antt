use Rattle.path_levels.proofs.Expanding.{IsExpanding}
use Rattle.path_levels.proofs.queue.expand.Given as goal

abbrev pub invariant-loop-edge : goal.invariant-loop-edge
invariant-loop-edge l = IsExpanding l.fn.scan l.scan l.fn.place l.edge
