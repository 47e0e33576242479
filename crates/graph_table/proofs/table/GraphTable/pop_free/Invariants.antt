use Rattle.std.specs.Prelude.{◌==◌}
use Rattle.core_rule.specs.OwnEvents.{pop_event}
use Rattle.graph_table.proofs.table.GraphTable.pop_free.Given as goal

abbrev pub ghosts-exchange : goal.ghosts-exchange
ghosts-exchange a = record { wins = λ n. n == a.seen; event = λ _. pop_event a.token.now.view a.seen a._next }
