use Rattle.std.proofs.Common.{◌≡◌, ◌+◌}
use Rattle.free_list_rounds.specs.Rounds.{IsBetweenRounds}
use Rattle.graph_table.specs.Tokens.{IsOf}
use Rattle.free_list_rounds.proofs.rounds.run_until.Given as goal

abbrev pub invariant-loop : goal.invariant-loop
invariant-loop l = record {
  of : IsOf l.fn.table l.caller.token;
  between : IsBetweenRounds l.caller;
  rounds : l.caller.rounds ≡ l.fn.caller.rounds + l.counter;
}
