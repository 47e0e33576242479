use Rattle.core_kept.proofs.Callers.{called}
use Rattle.core_kept.proofs.own.callers_have_numbers.Goals as goal

pub returns : goal.returns
returns c = λ sizes journal kept k e at. called sizes journal kept k e at
