use Rattle.std.proofs.Common.{◌≡◌, ◌≤◌, ◌-◌, ◌++◌}
use Rattle.std.specs.Prelude.{replicate}
use Rattle.graph_table.proofs.opening.with_words.Given as goal

abbrev pub invariant-loop-done : goal.invariant-loop-done
invariant-loop-done l = record {
  items : l.made.items ≡ l.fn.words.items ++ replicate l.done l.fn.word;
  low : l.done ≤
      l.fn.count;
}

abbrev pub decreases-loop-done : goal.decreases-loop-done
decreases-loop-done l = l.fn.count - l.done
