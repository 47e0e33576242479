use Rattle.std.proofs.Common.{lit≤}
use Rattle.core_scans.proofs.WorkedQueries.{collected_before, collected_between, differs_late, head_late, link_late}
use Rattle.core_scans.proofs.WorkedQueries.{same_between}
use Rattle.core_scans.proofs.worked.a_toggled_edge_differs.Goals as goal

pub returns-clause-collected : goal.returns-clause-collected
returns-clause-collected c = collected_before 27 (lit≤ tt)

pub returns-clause-head : goal.returns-clause-head
returns-clause-head c = head_late

pub returns-clause-link : goal.returns-clause-link
returns-clause-link c = link_late

pub returns-clause-differs : goal.returns-clause-differs
returns-clause-differs c = differs_late

pub returns-clause-again : goal.returns-clause-again
returns-clause-again c = collected_between

pub returns-clause-same : goal.returns-clause-same
returns-clause-same c = same_between
