use Rattle.core_worked.proofs.Refusals.{refused_holding, refused_outside, refused_inside, refused_edgeless}
use Rattle.core_worked.proofs.Refusals.{refused_unraised, refused_late, refused_unmet, refused_unmet_source}
use Rattle.core_worked.proofs.Refusals.{refused_unmet_target, refused_unmet_list, refused_lagging, refused_early}
use Rattle.core_worked.proofs.Refusals.{refused_unclosed}
use Rattle.core_worked.proofs.journals.wrong_events_are_refused.Goals as goal

pub returns-clause-greedy : goal.returns-clause-greedy
returns-clause-greedy c = refused_holding

pub returns-clause-outside : goal.returns-clause-outside
returns-clause-outside c = refused_outside

pub returns-clause-inside : goal.returns-clause-inside
returns-clause-inside c = refused_inside

pub returns-clause-edgeless : goal.returns-clause-edgeless
returns-clause-edgeless c = refused_edgeless

pub returns-clause-unraised : goal.returns-clause-unraised
returns-clause-unraised c = refused_unraised

pub returns-clause-late : goal.returns-clause-late
returns-clause-late c = refused_late

pub returns-clause-hurried : goal.returns-clause-hurried
returns-clause-hurried c = refused_lagging

pub returns-clause-early : goal.returns-clause-early
returns-clause-early c = refused_early

pub returns-clause-unclosed : goal.returns-clause-unclosed
returns-clause-unclosed c = refused_unclosed

pub returns-clause-unmet : goal.returns-clause-unmet
returns-clause-unmet c = refused_unmet

pub returns-clause-unmet_source : goal.returns-clause-unmet_source
returns-clause-unmet_source c = refused_unmet_source

pub returns-clause-unmet_target : goal.returns-clause-unmet_target
returns-clause-unmet_target c = refused_unmet_target

pub returns-clause-unmet_list : goal.returns-clause-unmet_list
returns-clause-unmet_list c = refused_unmet_list
