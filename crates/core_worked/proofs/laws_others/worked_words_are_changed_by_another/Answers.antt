use Rattle.core_worked.proofs.WorkedOthers.{free_by_another, bucket_by_another, bucket_by_unlink, counted_change}
use Rattle.core_worked.proofs.WorkedOthers.{met_in_between}
use Rattle.core_worked.proofs.laws_others.worked_words_are_changed_by_another.Goals as goal

pub returns-clause-free : goal.returns-clause-free
returns-clause-free c = free_by_another

pub returns-clause-bucket : goal.returns-clause-bucket
returns-clause-bucket c = bucket_by_another

pub returns-clause-bucket_again : goal.returns-clause-bucket_again
returns-clause-bucket_again c = bucket_by_unlink

pub returns-clause-counts : goal.returns-clause-counts
returns-clause-counts c = counted_change

pub returns-clause-met : goal.returns-clause-met
returns-clause-met c = met_in_between
