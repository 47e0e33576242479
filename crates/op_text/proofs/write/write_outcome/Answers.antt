use Rattle.op_text.proofs.TextWrites.{gives-then}
use Rattle.op_text.proofs.write.write_outcome.Goals as goal

pub returns-clause-prefix : goal.returns-clause-prefix
returns-clause-prefix g c = (gives-then c.in_ok-give_outcome.ensures c.give_text.ensures).prefix
