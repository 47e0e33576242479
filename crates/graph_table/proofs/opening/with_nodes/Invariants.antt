use Rattle.std.proofs.Common.{◌≡◌, ◌≤◌, ◌-◌, ◌++◌}
use Rattle.graph_table.specs.Opening.{nodes_from}
use Rattle.graph_table.proofs.opening.with_nodes.Given as goal

abbrev pub invariant-loop-done : goal.invariant-loop-done
invariant-loop-done l = record {
  items : l.made.items ≡ l.fn.words.items ++ nodes_from l.fn.nodes l.done;
  low : l.done ≤
      l.fn.nodes;
}

abbrev pub decreases-loop-done : goal.decreases-loop-done
decreases-loop-done l = l.fn.nodes - l.done
