use Rattle.core_worked.proofs.TargetAnew.{anew_kept, no_pair_anew}
use Rattle.core_worked.proofs.MomentsShown.{worked_is_graph, pair_of_edge, no_pair_left, cut_found, edge_gone}
use Rattle.core_worked.proofs.MomentsShown.{edge_replaced, one_cut}
use Rattle.core_worked.proofs.laws_moments.a_worked_edge_comes_and_goes.Goals as goal

pub returns-clause-graph : goal.returns-clause-graph
returns-clause-graph c = worked_is_graph

pub returns-clause-there : goal.returns-clause-there
returns-clause-there c = pair_of_edge

pub returns-clause-none : goal.returns-clause-none
returns-clause-none c = no_pair_left

pub returns-clause-first : goal.returns-clause-first
returns-clause-first c = cut_found

pub returns-clause-cut : goal.returns-clause-cut
returns-clause-cut c = edge_gone

pub returns-clause-own : goal.returns-clause-own
returns-clause-own c = λ q e since at by is. one_cut q e since at by is

pub returns-clause-replaced : goal.returns-clause-replaced
returns-clause-replaced c = edge_replaced

pub returns-clause-anew : goal.returns-clause-anew
returns-clause-anew c = anew_kept

pub returns-clause-other : goal.returns-clause-other
returns-clause-other c = no_pair_anew
