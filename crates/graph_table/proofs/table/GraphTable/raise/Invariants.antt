use Rattle.std.specs.Prelude.{true}
use Rattle.core_rule.specs.OwnEvents.{raise_event}
use Rattle.graph_table.proofs.table.GraphTable.raise.Given as goal

abbrev pub ghosts-add_one : goal.ghosts-add_one
ghosts-add_one a = record { wins = λ _. true; event = λ n. raise_event a.token.now.view a._life n }
