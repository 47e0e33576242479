use Rattle.std.specs.Prelude.{true}
use Rattle.core_rule.specs.OwnEvents.{withdraw_event}
use Rattle.graph_table.proofs.table.GraphTable.withdraw.Given as goal

abbrev pub ghosts-put : goal.ghosts-put
ghosts-put a = record { wins = λ _. true; event = λ _. withdraw_event a.token.now.view }
