use Rattle.std.proofs.Common.{◌≡◌, ◌≤◌, take}
use Rattle.graph_kinds.specs.History.{answered}
use Rattle.op_text.specs.Summary.{items_adding}
use Rattle.op_text.proofs.summary.count_added.Given as goal

-- the count so far
abbrev pub invariant-loop-i : goal.invariant-loop-i
invariant-loop-i l = record {
  few : l.count ≤ l.i;
  so_far : l.count ≡ items_adding (take l.i (answered l.rows l.answers));
}
