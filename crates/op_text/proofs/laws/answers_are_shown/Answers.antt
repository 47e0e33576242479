use Rattle.op_text.proofs.Shown.{answer-shown}
use Rattle.op_text.proofs.laws.answers_are_shown.Goals as goal

pub returns : goal.returns
returns c = answer-shown
