use Rattle.core_scans.proofs.DifferingWasChanged.{head_changed, counter_changed, link_changed, over_changed}
use Rattle.core_scans.proofs.DifferingWasChanged.{differs_foreign}
use Rattle.core_scans.proofs.verify.what_differs_was_changed.Goals as goal

pub returns-clause-head : goal.returns-clause-head
returns-clause-head c = head_changed

pub returns-clause-counter : goal.returns-clause-counter
returns-clause-counter c = counter_changed

pub returns-clause-link : goal.returns-clause-link
returns-clause-link c = link_changed

pub returns-clause-over : goal.returns-clause-over
returns-clause-over c = over_changed

pub returns-clause-foreign : goal.returns-clause-foreign
returns-clause-foreign c = differs_foreign
