use Rattle.std.proofs.Common.{◌++◌}
use Rattle.std.specs.Prelude.{codes}
use Rattle.std.specs.Fmt.{decimal}
use Rattle.op_text.specs.Text.{spaced}
use Rattle.op_text.proofs.TextWrites.{gives-then, gives-stop}
use Rattle.op_text.proofs.write.give_cost.Goals as goal

pub returns-in_err-give_text : goal.returns-in_err-give_text
returns-in_err-give_text g c = gives-stop (decimal c.args.cost ++ (codes " path" ++ spaced c.args.keys.now))
    c.from_residual.ensures.0 c.in_err-give_text.ensures

pub returns-in_err-give_number : goal.returns-in_err-give_number
returns-in_err-give_number g c = gives-then c.in_ok-give_text.ensures
    (gives-stop (codes " path" ++ spaced c.args.keys.now) c.from_residual-in_err-give_number.ensures.0
    c.in_err-give_number.ensures)

pub returns-in_err-give_text-2 : goal.returns-in_err-give_text-2
returns-in_err-give_text-2 g c =
    gives-then c.in_ok-give_text.ensures
    (gives-then c.in_ok-give_number.ensures (gives-stop (codes "path" ++ spaced c.args.keys.now)
    c.from_residual-in_err-give_text-2.ensures.0 c.in_err-give_text-2.ensures))

pub returns : goal.returns
returns g c = gives-then c.in_ok-give_text.ensures (gives-then c.in_ok-give_number.ensures
    (gives-then c.in_ok-give_text-2.ensures c.give_path.ensures))
