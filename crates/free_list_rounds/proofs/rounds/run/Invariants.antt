use Rattle.std.proofs.Common.{◌≡◌, ◌+◌}
use Rattle.free_list_rounds.specs.Rounds.{IsBetweenRounds}
use Rattle.graph_table.specs.Tokens.{IsOf}
use Rattle.free_list_rounds.proofs.rounds.run.Given as goal

abbrev pub invariant-loop-left : goal.invariant-loop-left
invariant-loop-left l = record {
  of : IsOf l.fn.table l.caller.token;
  between : IsBetweenRounds l.caller;
  rounds : l.caller.rounds + l.left ≡ l.fn.caller.rounds + l.rounds;
}

abbrev pub decreases-loop-left : goal.decreases-loop-left
decreases-loop-left l = l.left
