use Rattle.std.proofs.Common.{lit≤}
use Rattle.core_scans.proofs.WorkedQueries.{collected_before, counter_early, counter_late, head_late, link_late}
use Rattle.core_scans.proofs.WorkedQueries.{not_held}
use Rattle.core_scans.proofs.worked.an_early_counter_tells_nothing.Goals as goal

pub returns-clause-collected : goal.returns-clause-collected
returns-clause-collected c = collected_before 34 (lit≤ tt)

pub returns-clause-early : goal.returns-clause-early
returns-clause-early c = counter_early

pub returns-clause-head : goal.returns-clause-head
returns-clause-head c = head_late

pub returns-clause-link : goal.returns-clause-link
returns-clause-link c = link_late

pub returns-clause-not_held : goal.returns-clause-not_held
returns-clause-not_held c = not_held

pub returns-clause-late : goal.returns-clause-late
returns-clause-late c = counter_late
