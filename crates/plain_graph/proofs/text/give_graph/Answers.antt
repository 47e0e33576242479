use Rattle.std.specs.Prelude.{flat_map}
use Rattle.op_text.specs.Text.{edge_line}
use Rattle.op_text.proofs.TextWrites.{gives-then, gives-stop}
use Rattle.plain_graph.specs.Kept.{pairs_in}
use Rattle.plain_graph.proofs.text.give_graph.Goals as goal

pub returns-in_err-give_keys : goal.returns-in_err-give_keys
returns-in_err-give_keys g c = gives-stop (flat_map edge_line (pairs_in c.args.vertices.now)) c.from_residual.ensures.0
    c.in_err-give_keys.ensures

pub returns : goal.returns
returns g c = gives-then c.in_ok-give_keys.ensures c.give_edges.ensures
