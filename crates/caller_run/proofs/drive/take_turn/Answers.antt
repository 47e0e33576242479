use Rattle.std.proofs.Common.{◌∙◌, sym}
use Rattle.caller_run.proofs.Driving.{on_ok}
use Rattle.caller_run.proofs.drive.take_turn.Goals as goal

pub returns-clause-turn : goal.returns-clause-turn
returns-clause-turn g c = record {
  some = rw (← c.as_slice.ensures.value) c.drive-driven.ensures.some;
  all = λ h.
      rw (← c.as_slice.ensures.value)
      (on_ok c.drive-driven.result _ (sym c.is_err-lane.ensures.value ∙ h) c.drive-driven.ensures.all);
}
