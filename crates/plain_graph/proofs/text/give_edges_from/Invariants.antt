use Rattle.std.specs.Prelude.{flat_map}
use Rattle.op_text.specs.Text.{edge_line}
use Rattle.op_text.specs.declared.write.WriteFailed.{WriteFailed}
use Rattle.plain_graph.specs.Kept.{pairs_from}
use Rattle.plain_graph.proofs.Pairs.{paired_from}
use Rattle.plain_graph.proofs.Texts.{GivesFront}
use Rattle.plain_graph.proofs.text.give_edges_from.Given as goal

-- the edges so far were given, and those of the iterator are left
abbrev pub invariant-loop-to : goal.invariant-loop-to
invariant-loop-to g l = GivesFront WriteFailed g.K.Sink.taken g.K.Sink.faults l.initial.sink l.sink
    (flat_map edge_line (paired_from l.from l.to-iterator)) (flat_map edge_line (pairs_from (l.from, l.edges)))
