use Rattle.std.specs.Prelude.{flat_map}
use Rattle.op_text.specs.Text.{edge_line}
use Rattle.plain_graph.specs.Kept.{pairs_from, pairs_in}
use Rattle.plain_graph.proofs.Texts.{front-more, front-stop, edge_lines-cons}
use Rattle.plain_graph.proofs.text.give_edges.Goals as goal

pub loop-from-preserved : goal.loop-from-preserved
loop-from-preserved g c =
    front-more (flat_map edge_line (pairs_from (c.in-Some.from.now, c.in-Some.edges.now)))
    (flat_map edge_line (flat_map pairs_from c.next.new.self)) (flat_map edge_line (pairs_in c.args.vertices.now))
    (rw (edge_lines-cons (c.in-Some.from.now, c.in-Some.edges.now) c.next.new.self) at
    (rw c.in-Some.ensures.steps at c.loop-from.invariant)) c.in_ok-give_edges_from.ensures

pub returns-in_err-give_edges_from : goal.returns-in_err-give_edges_from
returns-in_err-give_edges_from g c =
    front-stop (flat_map edge_line (pairs_from (c.in-Some.from.now, c.in-Some.edges.now)))
    (flat_map edge_line (flat_map pairs_from c.next.new.self)) (flat_map edge_line (pairs_in c.args.vertices.now))
    (rw (edge_lines-cons (c.in-Some.from.now, c.in-Some.edges.now) c.next.new.self) at
    (rw c.in-Some.ensures.steps at c.loop-from.invariant))
    c.from_residual.ensures.0 c.in_err-give_edges_from.ensures
