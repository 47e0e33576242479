use Rattle.op_text.proofs.TextWrites.{gives-then, gives-stop, gives-as}
use Rattle.op_text.proofs.GraphLines.{behind_word, behind_from, behind_to, edge_line-pieces}
use Rattle.std.specs.Prelude.{codes}
use Rattle.op_text.proofs.graph_lines.give_edge_line.Goals as goal

pub returns-in_err-give_text : goal.returns-in_err-give_text
returns-in_err-give_text g c = gives-as (edge_line-pieces c.args.from c.args.to c.args.weight)
    (gives-stop (behind_word c.args.from c.args.to c.args.weight) c.from_residual.ensures.0 c.in_err-give_text.ensures)

pub returns-in_err-give_spaced : goal.returns-in_err-give_spaced
returns-in_err-give_spaced g c = gives-as (edge_line-pieces c.args.from c.args.to c.args.weight)
    (gives-then c.in_ok-give_text.ensures
    (gives-stop (behind_from c.args.to c.args.weight) c.from_residual-in_err-give_spaced.ensures.0
    c.in_err-give_spaced.ensures))

pub returns-in_err-give_spaced-2 : goal.returns-in_err-give_spaced-2
returns-in_err-give_spaced-2 g c = gives-as (edge_line-pieces c.args.from c.args.to c.args.weight)
    (gives-then c.in_ok-give_text.ensures
    (gives-then c.in_ok-give_spaced.ensures
    (gives-stop (behind_to c.args.weight) c.from_residual-in_err-give_spaced-2.ensures.0
    c.in_err-give_spaced-2.ensures)))

pub returns-in_err-give_spaced-3 : goal.returns-in_err-give_spaced-3
returns-in_err-give_spaced-3 g c = gives-as (edge_line-pieces c.args.from c.args.to c.args.weight)
    (gives-then c.in_ok-give_text.ensures
    (gives-then c.in_ok-give_spaced.ensures
    (gives-then c.in_ok-give_spaced-2.ensures
    (gives-stop (codes "\n") c.from_residual-in_err-give_spaced-3.ensures.0 c.in_err-give_spaced-3.ensures))))

pub returns : goal.returns
returns g c = gives-as (edge_line-pieces c.args.from c.args.to c.args.weight)
    (gives-then c.in_ok-give_text.ensures
    (gives-then c.in_ok-give_spaced.ensures
    (gives-then c.in_ok-give_spaced-2.ensures
    (gives-then c.in_ok-give_spaced-3.ensures c.give_text-2.ensures))))
