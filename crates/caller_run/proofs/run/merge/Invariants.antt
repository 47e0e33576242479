use Rattle.caller_run.proofs.Merging.{Merging}
use Rattle.caller_run.proofs.run.merge.Given as goal

abbrev pub invariant-loop-row : goal.invariant-loop-row
invariant-loop-row g l = Merging l.rows l.row-index l.initial.lanes l.lanes l.all.items
