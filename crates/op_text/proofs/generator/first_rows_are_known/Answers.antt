use Rattle.std.proofs.Common.{refl}
use Rattle.std.specs.Fmt.{digits}
use Rattle.op_text.specs.Generator.{made_rows}
use Rattle.op_text.proofs.generator.first_rows_are_known.Goals as goal

pub returns-clause-rows : goal.returns-clause-rows
unfolding made_rows
returns-clause-rows c = refl

pub returns-clause-lines : goal.returns-clause-lines
unfolding made_rows digits
returns-clause-lines c = refl

pub returns-clause-summary : goal.returns-clause-summary
unfolding made_rows digits
returns-clause-summary c = refl
