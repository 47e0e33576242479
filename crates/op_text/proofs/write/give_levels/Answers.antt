use Rattle.op_text.specs.Text.{barred, levels_by}
use Rattle.op_text.proofs.TextWrites.{gives-then, gives-stop}
use Rattle.op_text.proofs.write.give_levels.Goals as goal

pub returns-in_err-give_text : goal.returns-in_err-give_text
returns-in_err-give_text g c = gives-stop (barred (levels_by 0 c.args.keys.now c.args.ends.now))
    c.from_residual.ensures.0 c.in_err-give_text.ensures

pub returns : goal.returns
returns g c = gives-then c.in_ok-give_text.ensures c.give_barred.ensures
