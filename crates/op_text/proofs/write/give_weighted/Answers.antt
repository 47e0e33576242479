use Rattle.std.proofs.Common.{◌≡◌, ◌∷◌, ◌++◌, sym, ap, ne_eqb}
use Rattle.std.specs.Prelude.{cond}
use Rattle.std.specs.Fmt.{decimal}
use Rattle.op_text.specs.Text.{with_weight}
use Rattle.op_text.proofs.TextWrites.{gives-then, gives-as}
use Rattle.op_text.proofs.write.give_weighted.Goals as goal

pub returns : goal.returns
returns g c =
    let shown : c.args.word.now ++ (32 ∷ decimal c.args.weight) ≡ with_weight c.args.word.now c.args.weight =
    ap (λ b. cond b c.args.word.now (c.args.word.now ++ (32 ∷ decimal c.args.weight)))
    (sym (ne_eqb c.args.weight 0 c.if-weight-eq0.false)) in
    gives-as shown (gives-then c.in_ok-give_text.ensures c.give_spaced.ensures)
