use Rattle.op_text.proofs.TextWrites.{gives-then}
use Rattle.op_text.proofs.row_lines.give_field.Goals as goal

pub returns-in-Some : goal.returns-in-Some
returns-in-Some g c = rw c.in-Some.is (gives-then c.in_ok-give_text.ensures c.give_number.ensures)
