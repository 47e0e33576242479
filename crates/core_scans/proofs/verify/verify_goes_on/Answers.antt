use Rattle.core_scans.proofs.VerifyGoesOn.{again_later, counted_later, same_later, head_again, link_again, row_counted}
use Rattle.core_scans.proofs.VerifyGoesOn.{row_same}
use Rattle.core_scans.proofs.verify.verify_goes_on.Goals as goal

pub returns-clause-again_later : goal.returns-clause-again_later
returns-clause-again_later c = again_later

pub returns-clause-counted_later : goal.returns-clause-counted_later
returns-clause-counted_later c = counted_later

pub returns-clause-same_later : goal.returns-clause-same_later
returns-clause-same_later c = same_later

pub returns-clause-head : goal.returns-clause-head
returns-clause-head c = head_again

pub returns-clause-link : goal.returns-clause-link
returns-clause-link c = link_again

pub returns-clause-counter : goal.returns-clause-counter
returns-clause-counter c = row_counted

pub returns-clause-row : goal.returns-clause-row
returns-clause-row c = row_same
