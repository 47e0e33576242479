use Rattle.core_worked.proofs.LawSteps.{still_unmarked, one_pass, bucket_live, cut_linked, key_listed, linked_listed}
use Rattle.core_worked.proofs.laws_views.laws_of_moments_meet_a_worked_journal.Goals as goal

pub returns-clause-unmarked : goal.returns-clause-unmarked
returns-clause-unmarked c = still_unmarked

pub returns-clause-pass : goal.returns-clause-pass
returns-clause-pass c = one_pass

pub returns-clause-bucket : goal.returns-clause-bucket
returns-clause-bucket c = bucket_live

pub returns-clause-cut : goal.returns-clause-cut
returns-clause-cut c = cut_linked

pub returns-clause-key : goal.returns-clause-key
returns-clause-key c = key_listed

pub returns-clause-listed_linked : goal.returns-clause-listed_linked
returns-clause-listed_linked c = linked_listed
