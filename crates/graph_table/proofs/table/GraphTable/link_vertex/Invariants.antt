use Rattle.std.specs.Prelude.{◌==◌}
use Rattle.graph_table.specs.Filled.{filled_vertex_event}
use Rattle.graph_table.proofs.table.GraphTable.link_vertex.Given as goal

abbrev pub ghosts-exchange : goal.ghosts-exchange
ghosts-exchange a = record {
  wins = λ n. n == a.seen;
  event = λ _. filled_vertex_event a.token.now.view a.place a.seen
      a._life;
}
