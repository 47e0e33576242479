use Rattle.path_costs.specs.Heap.{IsHeap}
use Rattle.path_costs.proofs.Expanding.{IsRelaxing}
use Rattle.path_costs.proofs.search.expand.Given as goal

abbrev pub invariant-loop-place : goal.invariant-loop-place
invariant-loop-place l = record {
  heap : IsHeap l.scan l.waiting;
  expanding : IsRelaxing l.fn.scan l.scan l.fn.from l.place;
}
