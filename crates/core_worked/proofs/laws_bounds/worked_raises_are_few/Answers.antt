use Rattle.core_worked.proofs.WorkedBounds.{apart_first, apart_raised, apart_beyond, held_first, all_done, four_raises}
use Rattle.core_worked.proofs.WorkedBounds.{one_lost, few_lost}
use Rattle.core_worked.proofs.laws_bounds.worked_raises_are_few.Goals as goal

pub returns-clause-other_kind : goal.returns-clause-other_kind
returns-clause-other_kind c = apart_first

pub returns-clause-raise : goal.returns-clause-raise
returns-clause-raise c = apart_raised

pub returns-clause-others : goal.returns-clause-others
returns-clause-others c = apart_beyond

pub returns-clause-held : goal.returns-clause-held
returns-clause-held c = held_first

pub returns-clause-done : goal.returns-clause-done
returns-clause-done c = all_done

pub returns-clause-links : goal.returns-clause-links
returns-clause-links c = four_raises

pub returns-clause-lost : goal.returns-clause-lost
returns-clause-lost c = one_lost

pub returns-clause-few : goal.returns-clause-few
returns-clause-few c = few_lost
