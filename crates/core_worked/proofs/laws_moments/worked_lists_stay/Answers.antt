use Rattle.core_worked.proofs.MomentsShown.{moved_only, unlinked_only}
use Rattle.core_worked.proofs.laws_moments.worked_lists_stay.Goals as goal

pub returns-clause-uncounted : goal.returns-clause-uncounted
returns-clause-uncounted c = moved_only

pub returns-clause-unlinked : goal.returns-clause-unlinked
returns-clause-unlinked c = unlinked_only
