use Rattle.op_text.specs.Text.{spaced}
use Rattle.op_text.proofs.TextWrites.{gives-then, gives-stop}
use Rattle.op_text.proofs.write.give_path.Goals as goal

pub returns-in_err-give_text : goal.returns-in_err-give_text
returns-in_err-give_text g c = gives-stop (spaced c.args.keys.now) c.from_residual.ensures.0 c.in_err-give_text.ensures

pub returns : goal.returns
returns g c = gives-then c.in_ok-give_text.ensures c.give_all_spaced.ensures
