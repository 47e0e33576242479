use Rattle.caller_run.proofs.Merging.{Dealing}
use Rattle.caller_run.proofs.run.deal.Given as goal

abbrev pub invariant-loop-row : goal.invariant-loop-row
invariant-loop-row g l = Dealing l.rows l.row-index l.fn.lanes l.lanes
