use Rattle.core_scans.proofs.WorkedQueries.{collected_after, same_after}
use Rattle.core_scans.proofs.worked.a_replaced_edge_is_passed_over.Goals as goal

pub returns-clause-collected : goal.returns-clause-collected
returns-clause-collected c = collected_after

pub returns-clause-same : goal.returns-clause-same
returns-clause-same c = same_after
