use Rattle.std.specs.Prelude.{true}
use Rattle.core_rule.specs.OwnEvents.{store_event}
use Rattle.graph_table.proofs.table.GraphTable.store_private.Given as goal

abbrev pub ghosts-put : goal.ghosts-put
ghosts-put a = record { wins = λ _. true; event = λ _. store_event a.token.now.view a._life a._next a.new }
