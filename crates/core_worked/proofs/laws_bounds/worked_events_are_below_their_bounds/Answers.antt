use Rattle.core_worked.proofs.WorkedBounds.{below_kinds, below_links, below_takes, below_each, below_counted, is_again}
use Rattle.core_worked.proofs.WorkedBounds.{tries_few}
use Rattle.core_worked.proofs.laws_bounds.worked_events_are_below_their_bounds.Goals as goal

pub returns-clause-by_kinds : goal.returns-clause-by_kinds
returns-clause-by_kinds c = below_kinds

pub returns-clause-by_links : goal.returns-clause-by_links
returns-clause-by_links c = below_links

pub returns-clause-by_takes : goal.returns-clause-by_takes
returns-clause-by_takes c = below_takes

pub returns-clause-most : goal.returns-clause-most
returns-clause-most c = below_each

pub returns-clause-foreign : goal.returns-clause-foreign
returns-clause-foreign c = below_counted

pub returns-clause-gives_up : goal.returns-clause-gives_up
returns-clause-gives_up c = is_again

pub returns-clause-again : goal.returns-clause-again
returns-clause-again c = tries_few
