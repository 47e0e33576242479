use Rattle.core_kept.proofs.MadeBetween.{made_grows, none_between, one_between}
use Rattle.core_kept.proofs.made.own_events_between_are_counted.Goals as goal

pub returns-clause-grows : goal.returns-clause-grows
returns-clause-grows c = λ test caller front journal p. made_grows test caller front journal p

pub returns-clause-none : goal.returns-clause-none
returns-clause-none c = λ test caller front journal p same n e far at by. none_between test caller front journal p same
    n e far at by

pub returns-clause-only : goal.returns-clause-only
returns-clause-only c = λ test caller front journal p one m n d e. one_between test caller front journal p one m n d e
