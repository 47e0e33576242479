use Rattle.std.proofs.Common.{sym, ap, ◌∙◌}
use Rattle.graph_kinds.proofs.Bytes.{puts-more}
use Rattle.op_text.proofs.TextPieces.{puts-between}
use Rattle.op_text.proofs.pieces.tests.with_two_lines.Goals as goal

pub returns : goal.returns
returns g c =
    puts-between _ _ _ _ _ c.in_ok-pieces.ensures.given (sym c.in_ok-flush.ensures.all ∙ ap g.K.Sink.taken
    (sym c.into_sink.ensures))
    (puts-more _ _ _ _ _ c.in_ok-write_outcome.ensures.ok c.in_ok-write_outcome-2.ensures.ok)
