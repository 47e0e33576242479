use Rattle.graph_kinds.proofs.PathsWorked.{two_ways_levels, two_ways_reach, detour_reach, detour_cost, detour_cheapest}
use Rattle.graph_kinds.proofs.PathsWorked.{tie_cost, tie_cheapest, dead_end_levels, dead_end_reach, dead_end_cost}
use Rattle.graph_kinds.proofs.path_laws.worked_graphs_are_answered.Goals as goal

pub returns : goal.returns
returns c = record {
  levels = two_ways_levels;
  first_parent = two_ways_reach;
  fewest_pairs = detour_reach;
  detour_cost = detour_cost;
  detour_path = detour_cheapest;
  tie_cost = tie_cost;
  tie_path = tie_cheapest;
  circle = dead_end_levels;
  no_path = dead_end_reach;
  no_cost = dead_end_cost;
}
