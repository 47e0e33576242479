use Rattle.op_text.proofs.TextWrites.{gives-then}
use Rattle.op_text.proofs.write.give_spaced.Goals as goal

pub returns : goal.returns
returns g c = gives-then c.in_ok-give_text.ensures c.give_number.ensures
