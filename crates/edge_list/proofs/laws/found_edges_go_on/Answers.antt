use Rattle.edge_list.proofs.EdgeMarksTell.{raised_makes, same_edge}
use Rattle.edge_list.proofs.EdgePositionsGoOn.{seen_makes}
use Rattle.edge_list.proofs.EdgeWalksTell.{seen_changed}
use Rattle.edge_list.proofs.laws.found_edges_go_on.Goals as goal

pub returns-clause-seen : goal.returns-clause-seen
returns-clause-seen c = seen_makes

pub returns-clause-changed : goal.returns-clause-changed
returns-clause-changed c = seen_changed

pub returns-clause-raised : goal.returns-clause-raised
returns-clause-raised c = raised_makes

pub returns-clause-same : goal.returns-clause-same
returns-clause-same c = same_edge
