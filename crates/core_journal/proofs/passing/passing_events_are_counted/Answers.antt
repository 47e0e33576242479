use Rattle.core_journal.proofs.EachIsCounted.{passing-nil, passing_one, passing_other, passing_grows, passing_some}
use Rattle.core_journal.proofs.EachIsCounted.{passing_none, passing_only}
use Rattle.core_journal.proofs.passing.passing_events_are_counted.Goals as goal

pub returns-clause-opening : goal.returns-clause-opening
returns-clause-opening c = λ test. passing-nil test

pub returns-clause-one : goal.returns-clause-one
returns-clause-one c = λ test past e h. passing_one test past e h

pub returns-clause-other : goal.returns-clause-other
returns-clause-other c = λ test past e h. passing_other test past e h

pub returns-clause-grows : goal.returns-clause-grows
returns-clause-grows c = λ test front journal p. passing_grows test front journal p

pub returns-clause-some : goal.returns-clause-some
returns-clause-some c = λ test front journal p n e far at h. passing_some test front journal p n e far at h

pub returns-clause-none : goal.returns-clause-none
returns-clause-none c = λ test front journal p same n e far at. passing_none test front journal p same n e far at

pub returns-clause-only : goal.returns-clause-only
returns-clause-only c = λ test front journal p one m n d e. passing_only test front journal p one m n d e
