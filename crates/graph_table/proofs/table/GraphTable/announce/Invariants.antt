use Rattle.std.specs.Prelude.{true}
use Rattle.core_rule.specs.OwnEvents.{announce_event}
use Rattle.graph_table.proofs.table.GraphTable.announce.Given as goal

abbrev pub ghosts-put : goal.ghosts-put
ghosts-put a = record { wins = λ _. true; event = λ _. announce_event a.token.now.view a._next }
