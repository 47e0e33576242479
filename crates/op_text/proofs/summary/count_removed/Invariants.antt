use Rattle.std.proofs.Common.{◌≡◌, ◌≤◌, take}
use Rattle.graph_kinds.specs.History.{answered}
use Rattle.op_text.specs.Summary.{items_removing}
use Rattle.op_text.proofs.summary.count_removed.Given as goal

-- the count so far
abbrev pub invariant-loop-i : goal.invariant-loop-i
invariant-loop-i l = record {
  few : l.count ≤ l.i;
  so_far : l.count ≡ items_removing (take l.i (answered l.rows l.answers));
}
