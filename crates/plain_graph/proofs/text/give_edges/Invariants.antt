use Rattle.std.specs.Prelude.{flat_map}
use Rattle.op_text.specs.Text.{edge_line}
use Rattle.op_text.specs.declared.write.WriteFailed.{WriteFailed}
use Rattle.plain_graph.specs.Kept.{pairs_from, pairs_in}
use Rattle.plain_graph.proofs.Texts.{GivesFront}
use Rattle.plain_graph.proofs.text.give_edges.Given as goal

-- the vertices so far had their edges given, and those of the iterator are left
abbrev pub invariant-loop-from : goal.invariant-loop-from
invariant-loop-from g l = GivesFront WriteFailed g.K.Sink.taken g.K.Sink.faults l.initial.sink l.sink
    (flat_map edge_line (flat_map pairs_from l.from-iterator)) (flat_map edge_line (pairs_in l.vertices))
