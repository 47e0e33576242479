use Rattle.std.proofs.Common.{◌∷◌, ◌++◌, sym, append_assoc}
use Rattle.std.specs.Prelude.{codes}
use Rattle.std.specs.Fmt.{decimal}
use Rattle.op_text.proofs.TextWrites.{gives-then, gives-stop, gives-as}
use Rattle.op_text.proofs.summary.give_count.Goals as goal

pub returns-in_err-give_text-2 : goal.returns-in_err-give_text-2
returns-in_err-give_text-2 g c =
    gives-as (sym (append_assoc c.args.name.now (32 ∷ decimal c.args.count) (codes "\n")))
    (gives-then c.in_ok-give_text.ensures (gives-stop (decimal c.args.count ++ codes "\n")
    c.from_residual-in_err-give_text-2.ensures.0 c.in_err-give_text-2.ensures))

pub returns-in_err-give_number : goal.returns-in_err-give_number
returns-in_err-give_number g c =
    gives-as (sym (append_assoc c.args.name.now (32 ∷ decimal c.args.count) (codes "\n")))
    (gives-then c.in_ok-give_text.ensures (gives-then c.in_ok-give_text-2.ensures
    (gives-stop (codes "\n") c.from_residual-in_err-give_number.ensures.0 c.in_err-give_number.ensures)))

pub returns : goal.returns
returns g c =
    gives-as (sym (append_assoc c.args.name.now (32 ∷ decimal c.args.count) (codes "\n")))
    (gives-then c.in_ok-give_text.ensures (gives-then c.in_ok-give_text-2.ensures
    (gives-then c.in_ok-give_number.ensures c.give_text-3.ensures)))
