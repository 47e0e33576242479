use Rattle.graph_kinds.proofs.PathsPart.{part_law, only_part_law, graph_law, levels_law, reach_law, cost_law}
use Rattle.graph_kinds.proofs.PathsPart.{cheapest_law}
use Rattle.graph_kinds.proofs.path_laws.parts_are_answered_alike.Goals as goal

pub returns : goal.returns
returns c = record {
  part = part_law;
  only = only_part_law;
  graph = graph_law;
  levels = levels_law;
  reach = reach_law;
  cost = cost_law;
  cheapest = cheapest_law;
}
