use Rattle.std.proofs.Common.{◌-◌, ◌≤◌}
use Rattle.epoch_limbo.proofs.EpochSeen.{HasChecked}
use Rattle.epoch_limbo.proofs.advancing.advance.Given as goal

abbrev pub invariant-loop-caller : goal.invariant-loop-caller
invariant-loop-caller l = record {
  checked : HasChecked l.fn.table l.fn.token.view l.epoch l.first.value.view.front l.caller l.token;
  low : l.caller ≤ l.callers;
}

abbrev pub decreases-loop-caller : goal.decreases-loop-caller
decreases-loop-caller l = l.callers - l.caller
