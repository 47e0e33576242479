use Rattle.core_worked.proofs.WorkedKept.{pass_between_others, fresh_between_others, none_between_others, four_taken}
use Rattle.core_worked.proofs.WorkedKept.{spent_between_others, one_drawn, two_not_met, two_ended, clear_of_zero}
use Rattle.core_worked.proofs.laws_kept.worked_own_facts_stay.Goals as goal

pub returns-clause-pass : goal.returns-clause-pass
returns-clause-pass c = pass_between_others

pub returns-clause-fresh : goal.returns-clause-fresh
returns-clause-fresh c = fresh_between_others

pub returns-clause-none_fresh : goal.returns-clause-none_fresh
returns-clause-none_fresh c = none_between_others

pub returns-clause-four : goal.returns-clause-four
returns-clause-four c = four_taken

pub returns-clause-spent : goal.returns-clause-spent
returns-clause-spent c = spent_between_others

pub returns-clause-drawn : goal.returns-clause-drawn
returns-clause-drawn c = one_drawn

pub returns-clause-not_met : goal.returns-clause-not_met
returns-clause-not_met c = two_not_met

pub returns-clause-ended : goal.returns-clause-ended
returns-clause-ended c = two_ended

pub returns-clause-clear : goal.returns-clause-clear
returns-clause-clear c = clear_of_zero
