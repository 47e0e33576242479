use Rattle.std.specs.Prelude.{◌==◌}
use Rattle.core_rule.specs.OwnEvents.{push_event}
use Rattle.graph_table.proofs.table.GraphTable.push_free.Given as goal

abbrev pub ghosts-exchange : goal.ghosts-exchange
ghosts-exchange a = record { wins = λ n. n == a.seen; event = λ _. push_event a.token.now.view a.seen a._life }
