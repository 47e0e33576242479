use Rattle.std.specs.Prelude.{◌==◌}
use Rattle.packed_link.specs.Link.{mark_of}
use Rattle.core_rule.specs.OwnEvents.{mark_edge_event}
use Rattle.graph_table.proofs.table.GraphTable.mark_edge.Given as goal

abbrev pub ghosts-set_mark : goal.ghosts-set_mark
ghosts-set_mark a = record { wins = λ n. mark_of n == 0; event = λ n. mark_edge_event a.token.now.view a.life n }
