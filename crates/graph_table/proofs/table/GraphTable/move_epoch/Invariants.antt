use Rattle.std.specs.Prelude.{◌==◌}
use Rattle.core_rule.specs.OwnEvents.{move_event}
use Rattle.graph_table.proofs.table.GraphTable.move_epoch.Given as goal

abbrev pub ghosts-exchange : goal.ghosts-exchange
ghosts-exchange a = record { wins = λ n. n == a.seen; event = λ _. move_event a.token.now.view a.seen }
