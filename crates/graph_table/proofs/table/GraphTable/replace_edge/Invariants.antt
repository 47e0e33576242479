use Rattle.std.specs.Prelude.{◌==◌}
use Rattle.graph_table.specs.Filled.{replaced_event}
use Rattle.graph_table.proofs.table.GraphTable.replace_edge.Given as goal

abbrev pub ghosts-exchange : goal.ghosts-exchange
ghosts-exchange a = record {
  wins = λ n. n == a.seen;
  event = λ _. replaced_event a.token.now.view a.seen a._old a._life;
}
