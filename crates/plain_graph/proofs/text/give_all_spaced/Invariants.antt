use Rattle.std.specs.BTreeMap.{keys}
use Rattle.op_text.specs.Text.{spaced}
use Rattle.op_text.specs.declared.write.WriteFailed.{WriteFailed}
use Rattle.plain_graph.proofs.Texts.{GivesFront}
use Rattle.plain_graph.proofs.text.give_all_spaced.Given as goal

-- the keys so far were given, and those of the iterator are left
abbrev pub invariant-loop-key : goal.invariant-loop-key
invariant-loop-key g l = GivesFront WriteFailed g.K.Sink.taken g.K.Sink.faults l.initial.sink l.sink
    (spaced l.key-iterator) (spaced (keys l.vertices))
