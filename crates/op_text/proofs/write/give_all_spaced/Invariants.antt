use Rattle.std.proofs.Common.{take}
use Rattle.std.specs.Prelude.{Ok}
use Rattle.op_text.specs.Gives.{Gives}
use Rattle.op_text.specs.Text.{spaced}
use Rattle.op_text.specs.declared.write.WriteFailed.{WriteFailed}
use Rattle.op_text.proofs.write.give_all_spaced.Given as goal

abbrev pub invariant-loop-number : goal.invariant-loop-number
invariant-loop-number g l = Gives {E = WriteFailed} g.K.Sink.taken g.K.Sink.faults l.initial.sink l.sink
    (spaced (take l.number-index l.numbers)) (Ok tt)
