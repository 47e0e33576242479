use Rattle.std.specs.Prelude.{◌==◌}
use Rattle.core_rule.specs.OwnEvents.{unlink_vertex_event}
use Rattle.graph_table.proofs.table.GraphTable.unlink_vertex.Given as goal

abbrev pub ghosts-exchange : goal.ghosts-exchange
ghosts-exchange a = record {
  wins = λ n. n == a.seen;
  event = λ _. unlink_vertex_event a.token.now.view a.place a.seen
      a._next a._life;
}
