use Rattle.core_lists.proofs.UncountedEvents.{stays_uncounted, quiet_uncounted}
use Rattle.core_lists.proofs.uncounted.uncounted_events_change_no_list.Goals as goal

pub returns-clause-stays : goal.returns-clause-stays
returns-clause-stays c = λ sizes z front journal p kept none. stays_uncounted sizes z front journal p kept none

pub returns-clause-quiet : goal.returns-clause-quiet
returns-clause-quiet c = λ front journal p caller last quiet old none. quiet_uncounted front journal p caller last quiet
    old none
