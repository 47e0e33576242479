use Rattle.op_text.proofs.RowBack.{written_back}
use Rattle.op_text.proofs.row_lines.written_rows_are_read.Goals as goal

pub returns : goal.returns
returns c = written_back
