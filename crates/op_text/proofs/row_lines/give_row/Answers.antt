use Rattle.std.specs.Prelude.{codes}
use Rattle.op_text.proofs.TextWrites.{gives-then, gives-stop}
use Rattle.op_text.proofs.row_lines.give_row.Goals as goal

pub returns-in_err-give_call : goal.returns-in_err-give_call
returns-in_err-give_call g c = gives-stop (codes "\n") c.from_residual-in_err-give_call.ensures.0
    (gives-then c.in_ok-give_number.ensures c.in_err-give_call.ensures)

pub returns : goal.returns
returns g c = gives-then (gives-then c.in_ok-give_number.ensures c.in_ok-give_call.ensures) c.give_text.ensures
