use Rattle.std.proofs.Common.{[], ◌-◌, ◌≤◌, List}
use Rattle.core_journal.specs.declared.event.Event.{Event}
use Rattle.core_scans.specs.Walking.{IsRowAgain}
use Rattle.core_stretches.specs.Makes.{Makes}
use Rattle.graph_table.specs.Tokens.{IsOf}
use Rattle.scan_record.specs.Scan.{row_at}
use Rattle.tree_scan.proofs.again.are_links_same.Given as goal

abbrev pub invariant-loop-place : goal.invariant-loop-place
invariant-loop-place l = record {
  of : IsOf l.fn.table l.token;
  makes : Makes l.fn.token.view [] l.token.view;
  few : l.place ≤ (row_at l.fn.scan l.fn.row).count;
  again : (end : List Event) → IsRowAgain l.fn.table.sizes l.fn.scan end l.fn.token.view.front
      (row_at l.fn.scan l.fn.row) 0
      → IsRowAgain l.fn.table.sizes l.fn.scan end l.token.view.front (row_at l.fn.scan l.fn.row) l.place;
}

abbrev pub decreases-loop-place : goal.decreases-loop-place
decreases-loop-place l = l.count - l.place
