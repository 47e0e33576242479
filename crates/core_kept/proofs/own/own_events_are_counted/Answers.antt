use Rattle.core_kept.proofs.Callers.{made_quiet, made_other, made_one, made_none}
use Rattle.core_kept.proofs.own.own_events_are_counted.Goals as goal

pub returns-clause-quiet : goal.returns-clause-quiet
returns-clause-quiet c = λ test caller last front journal p old q. made_quiet test caller last front journal p old q

pub returns-clause-one : goal.returns-clause-one
returns-clause-one c = λ test past e is. made_one test past e is

pub returns-clause-other_kind : goal.returns-clause-other_kind
returns-clause-other_kind c = λ test caller past e is. made_none test caller past e is

pub returns-clause-other_caller : goal.returns-clause-other_caller
returns-clause-other_caller c = λ test caller past e other. made_other test caller past e other
