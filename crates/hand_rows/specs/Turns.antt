-- A caller that takes turns: its hand, and what became of its calls.
use Rattle.std.specs.Prelude.{◌≡◌, ℕ, ◌+◌, ◌≤◌}
use Rattle.core_stretches.specs.Holdings.{HasNoPass}
use Rattle.graph_table.specs.Tokens.{TableValue}
use Rattle.graph_updates.specs.Hands.{HandValue, IsHandOf, IsInOrder}
use Rattle.hand_rows.specs.declared.turns.Turns.{Turns}

-- the hand is in order and has no open pass, and so many turns were taken at least as calls were counted
pub record HasTaken (g : TableValue) (turns : ℕ) (t : Turns) : Type 0 where
  pub hand : IsHandOf g t.hand
  pub closed : HasNoPass t.hand.token.view
  pub order : IsInOrder t.hand
  pub few : t.added + t.removed + t.refused ≤ turns
