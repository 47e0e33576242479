use Rattle.std.proofs.Common.{[], ◌-◌, ◌≤◌, List, length}
use Rattle.core_journal.specs.declared.event.Event.{Event}
use Rattle.core_journal.specs.Prefix.{IsPrefix}
use Rattle.core_scans.specs.Walking.{AreRowsSame}
use Rattle.core_stretches.specs.Makes.{Makes}
use Rattle.graph_table.specs.Tokens.{IsOf}
use Rattle.tree_scan.proofs.again.verify.Given as goal

abbrev pub invariant-loop-row : goal.invariant-loop-row
invariant-loop-row l = record {
  of : IsOf l.fn.table l.token;
  makes : Makes l.fn.token.view [] l.token.view;
  few : l.row ≤ length l.fn.scan.rows;
  same : (end : List Event) → IsPrefix end l.fn.token.view.front
      → AreRowsSame l.fn.table.sizes end l.token.view.front l.fn.scan l.row;
}

abbrev pub decreases-loop-row : goal.decreases-loop-row
decreases-loop-row l = l.rows - l.row
