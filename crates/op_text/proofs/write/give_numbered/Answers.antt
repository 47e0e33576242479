use Rattle.std.specs.Fmt.{decimal}
use Rattle.op_text.proofs.TextWrites.{gives-then, gives-stop}
use Rattle.op_text.proofs.write.give_numbered.Goals as goal

pub returns-in_err-give_text : goal.returns-in_err-give_text
returns-in_err-give_text g c = gives-stop (decimal c.args.weight) c.from_residual.ensures.0 c.in_err-give_text.ensures

pub returns : goal.returns
returns g c = gives-then c.in_ok-give_text.ensures c.give_number.ensures
