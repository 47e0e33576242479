use Rattle.std.specs.Prelude.{true}
use Rattle.core_rule.specs.OwnEvents.{store_free_event}
use Rattle.graph_table.proofs.table.GraphTable.store_free.Given as goal

abbrev pub ghosts-put : goal.ghosts-put
ghosts-put a = record { wins = λ _. true; event = λ _. store_free_event a.token.now.view a._next a._life }
