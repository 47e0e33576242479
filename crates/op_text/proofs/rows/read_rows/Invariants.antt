use Rattle.op_text.proofs.RowSteps.{IsReadSoFar}
use Rattle.op_text.proofs.rows.read_rows.Given as goal

abbrev pub invariant-loop-number : goal.invariant-loop-number
invariant-loop-number l = IsReadSoFar l.fn.bytes l.fn.callers l.number l.reader l.read.items
