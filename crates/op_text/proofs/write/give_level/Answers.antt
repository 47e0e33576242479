use Rattle.std.proofs.Common.{[], ◌++◌, cond, sym, ap}
use Rattle.std.specs.Prelude.{codes}
use Rattle.op_text.specs.Text.{spaced}
use Rattle.op_text.proofs.TextWrites.{gives-then, gives-as}
use Rattle.op_text.proofs.write.give_level.Goals as goal

pub returns : goal.returns
returns g c =
    gives-as (ap (λ b. spaced c.args.level.now ++ cond b [] (codes " |")) (sym c.if-last.false))
    (gives-then c.in_ok-give_all_spaced.ensures c.give_text.ensures)
