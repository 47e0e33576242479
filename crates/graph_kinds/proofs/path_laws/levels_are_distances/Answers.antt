use Rattle.graph_kinds.proofs.LevelsLaws.{level_law, within_law, all_law, once_law, filled_law, start_law}
use Rattle.graph_kinds.proofs.path_laws.levels_are_distances.Goals as goal

pub returns : goal.returns
returns c = record {
  level = level_law;
  within = within_law;
  all = all_law;
  once = once_law;
  filled = filled_law;
  start
      = start_law;
}
