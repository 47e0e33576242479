use Rattle.std.proofs.Common.{◌++◌}
use Rattle.std.specs.Prelude.{codes}
use Rattle.std.specs.BTreeMap.{keys}
use Rattle.op_text.specs.Text.{spaced}
use Rattle.op_text.proofs.TextWrites.{gives-then, gives-stop, gives-as}
use Rattle.plain_graph.proofs.Texts.{vertices_line-pieces}
use Rattle.plain_graph.proofs.text.give_keys.Goals as goal

pub returns-in_err-give_text : goal.returns-in_err-give_text
returns-in_err-give_text g c = gives-as (vertices_line-pieces (keys c.args.vertices.now))
    (gives-stop (spaced (keys c.args.vertices.now) ++ codes "\n") c.from_residual.ensures.0 c.in_err-give_text.ensures)

pub returns-in_err-give_all_spaced : goal.returns-in_err-give_all_spaced
returns-in_err-give_all_spaced g c = gives-as (vertices_line-pieces (keys c.args.vertices.now))
    (gives-then c.in_ok-give_text.ensures (gives-stop (codes "\n") c.from_residual-in_err-give_all_spaced.ensures.0
    c.in_err-give_all_spaced.ensures))

pub returns : goal.returns
returns g c = gives-as (vertices_line-pieces (keys c.args.vertices.now))
    (gives-then c.in_ok-give_text.ensures (gives-then c.in_ok-give_all_spaced.ensures c.give_text-2.ensures))
