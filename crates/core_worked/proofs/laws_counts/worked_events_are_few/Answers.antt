use Rattle.core_counts.proofs.RaisesOfEdges.{once_apart}
use Rattle.std.proofs.Common.{[]}
use Rattle.core_worked.specs.TwoLives.{two_lives}
use Rattle.core_worked.proofs.WorkedCounts.{raised, over, few, sum_is, books_sum}
use Rattle.core_worked.proofs.laws_counts.worked_events_are_few.Goals as goal

pub returns-clause-raised : goal.returns-clause-raised
returns-clause-raised c = raised

pub returns-clause-over : goal.returns-clause-over
returns-clause-over c = over

pub returns-clause-apart : goal.returns-clause-apart
returns-clause-apart c = once_apart 0 0 [] two_lives two_lives over

pub returns-clause-few : goal.returns-clause-few
returns-clause-few c = few

pub returns-clause-sum : goal.returns-clause-sum
returns-clause-sum c = sum_is

pub returns-clause-books : goal.returns-clause-books
returns-clause-books c = books_sum
