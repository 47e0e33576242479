use Rattle.edge_list.proofs.HandedEdges.{next_is_new, one_list, all_handed}
use Rattle.edge_list.proofs.laws.edges_are_handed_over_once.Goals as goal

pub returns-clause-new : goal.returns-clause-new
returns-clause-new c = next_is_new

pub returns-clause-one : goal.returns-clause-one
returns-clause-one c = one_list

pub returns-clause-all : goal.returns-clause-all
returns-clause-all c = all_handed
