use Rattle.std.proofs.Common.{◌≤◌, ◌-◌}
use Rattle.hand_rows.specs.Turns.{HasTaken}
use Rattle.hand_rows.proofs.turns.take_turns.Given as goal

abbrev pub invariant-loop-turn : goal.invariant-loop-turn
invariant-loop-turn l = record {
  taken : HasTaken l.fn.table l.turn l.turns;
  low : l.turn ≤ l.fn.count;
}

abbrev pub decreases-loop-turn : goal.decreases-loop-turn
decreases-loop-turn l = l.count - l.turn
