use Rattle.edge_list.proofs.EdgesTellPairs.{has_pair, lacks_pair, pair_gone, stale_pair}
use Rattle.edge_list.proofs.laws.edges_tell_pairs.Goals as goal

pub returns-clause-has : goal.returns-clause-has
returns-clause-has c = has_pair

pub returns-clause-lacks : goal.returns-clause-lacks
returns-clause-lacks c = lacks_pair

pub returns-clause-stale : goal.returns-clause-stale
returns-clause-stale c = stale_pair

pub returns-clause-gone : goal.returns-clause-gone
returns-clause-gone c = pair_gone
