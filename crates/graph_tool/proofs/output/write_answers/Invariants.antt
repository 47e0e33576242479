use Rattle.std.proofs.Common.{take}
use Rattle.std.specs.Prelude.{Ok}
use Rattle.op_text.specs.Gives.{Gives}
use Rattle.op_text.specs.Text.{answer_lines}
use Rattle.op_text.specs.declared.write.WriteFailed.{WriteFailed}
use Rattle.graph_tool.proofs.output.write_answers.Given as goal

abbrev pub invariant-loop-answer : goal.invariant-loop-answer
invariant-loop-answer g l = Gives {E = WriteFailed} g.K.Sink.taken g.K.Sink.faults l.initial.sink l.sink
    (answer_lines (take l.answer-index l.answers)) (Ok tt)
