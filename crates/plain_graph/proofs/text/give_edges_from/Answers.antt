use Rattle.std.specs.Prelude.{flat_map}
use Rattle.op_text.specs.Text.{edge_line}
use Rattle.plain_graph.specs.Kept.{pairs_from}
use Rattle.plain_graph.proofs.Pairs.{paired_from}
use Rattle.plain_graph.proofs.Texts.{front-more, front-stop}
use Rattle.plain_graph.proofs.text.give_edges_from.Goals as goal

pub loop-to-preserved : goal.loop-to-preserved
loop-to-preserved g c =
    front-more (edge_line ((c.args.from, c.in-Some.to.now), c.in-Some.weight.now))
    (flat_map edge_line (paired_from c.args.from c.next.new.self))
    (flat_map edge_line (pairs_from (c.args.from, c.args.edges.now)))
    (rw c.in-Some.ensures.steps at c.loop-to.invariant) c.in_ok-give_edge_line.ensures

pub returns-in_err-give_edge_line : goal.returns-in_err-give_edge_line
returns-in_err-give_edge_line g c =
    front-stop (edge_line ((c.args.from, c.in-Some.to.now), c.in-Some.weight.now))
    (flat_map edge_line (paired_from c.args.from c.next.new.self))
    (flat_map edge_line (pairs_from (c.args.from, c.args.edges.now)))
    (rw c.in-Some.ensures.steps at c.loop-to.invariant) c.from_residual.ensures.0 c.in_err-give_edge_line.ensures
