use Rattle.scan_record.specs.Scan.{row_at}
use Rattle.plain_graph.proofs.Collects.{IsInRow}
use Rattle.plain_graph.proofs.parts.push_row.Given as goal

-- the rows before this one are done, and this one has the edges but those of the iterator
abbrev pub invariant-loop-to : goal.invariant-loop-to
invariant-loop-to l = IsInRow l.vertices l.numbers l.scan l.row l.key (row_at l.fn.scan 0).key l.to-iterator
