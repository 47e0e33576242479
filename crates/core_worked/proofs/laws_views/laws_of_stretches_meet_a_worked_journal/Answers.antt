use Rattle.core_worked.proofs.LawSteps.{own_elsewhere, moment_between, met_drawing, unlink_drawing, tag_low}
use Rattle.core_worked.proofs.LawSteps.{epoch_is_low, life_is_low, one_more_spent}
use Rattle.core_worked.proofs.laws_views.laws_of_stretches_meet_a_worked_journal.Goals as goal

pub returns-clause-own : goal.returns-clause-own
returns-clause-own c = own_elsewhere

pub returns-clause-between : goal.returns-clause-between
returns-clause-between c = moment_between

pub returns-clause-met : goal.returns-clause-met
returns-clause-met c = met_drawing

pub returns-clause-may : goal.returns-clause-may
returns-clause-may c = unlink_drawing

pub returns-clause-tag : goal.returns-clause-tag
returns-clause-tag c = tag_low

pub returns-clause-epoch : goal.returns-clause-epoch
returns-clause-epoch c = epoch_is_low

pub returns-clause-life : goal.returns-clause-life
returns-clause-life c = life_is_low

pub returns-clause-spent : goal.returns-clause-spent
returns-clause-spent c = one_more_spent
