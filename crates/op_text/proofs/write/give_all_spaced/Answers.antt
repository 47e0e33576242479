use Rattle.std.proofs.Common.{◌+◌, drop, ap, arith, take_all}
use Rattle.op_text.specs.Text.{spaced}
use Rattle.op_text.proofs.TextWrites.{gives-then, gives-stop, gives-as}
use Rattle.op_text.proofs.TextLists.{spaced-more, spaced-split}
use Rattle.op_text.proofs.write.give_all_spaced.Goals as goal

pub returns-in_err-give_spaced : goal.returns-in_err-give_spaced
returns-in_err-give_spaced g c =
    gives-as (spaced-split c.args.numbers.now c.loop-number.number-index (omega arith))
    (gives-then c.loop-number.invariant (gives-stop (spaced (drop (c.loop-number.number-index + 1) c.args.numbers.now))
    c.from_residual.ensures.0 c.in_err-give_spaced.ensures))

pub loop-number-preserved : goal.loop-number-preserved
loop-number-preserved g c =
    gives-as (spaced-more c.args.numbers.now c.loop-number.number-index (omega arith))
    (gives-then c.loop-number.invariant c.in_ok-give_spaced.ensures)

pub returns : goal.returns
returns g c = gives-as (ap spaced (take_all c.loop-number.number-index c.args.numbers.now (omega arith)))
    c.loop-number.invariant
