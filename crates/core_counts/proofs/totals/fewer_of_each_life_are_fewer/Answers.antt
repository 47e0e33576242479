use Rattle.core_counts.proofs.FewerOfEachLife.{fewer_in_all, fewer_cuts, fewer_cut}
use Rattle.core_counts.proofs.totals.fewer_of_each_life_are_fewer.Goals as goal

pub returns-clause-about : goal.returns-clause-about
returns-clause-about c = λ test other journal h. fewer_in_all test other journal h

pub returns-clause-cuts : goal.returns-clause-cuts
returns-clause-cuts c = λ other journal h. fewer_cuts other journal h

pub returns-clause-cut : goal.returns-clause-cut
returns-clause-cut c = λ test journal h. fewer_cut test journal h
