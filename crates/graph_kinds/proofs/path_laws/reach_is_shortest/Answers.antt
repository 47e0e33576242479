use Rattle.graph_kinds.proofs.LevelsReach.{reach_path_law, shortest_law, parents_law, only_law, no_reach_law}
use Rattle.graph_kinds.proofs.LevelsReach.{itself_law}
use Rattle.graph_kinds.proofs.path_laws.reach_is_shortest.Goals as goal

pub returns : goal.returns
returns c = record {
  path = reach_path_law;
  shortest = shortest_law;
  parents = parents_law;
  only = only_law;
  none =
      no_reach_law;
  itself = itself_law;
}
