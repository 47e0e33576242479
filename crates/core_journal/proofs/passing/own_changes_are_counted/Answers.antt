use Rattle.core_journal.specs.Passing.{is_own_change}
use Rattle.core_journal.proofs.EachIsCounted.{passing-nil, own_change, other_change, passing_one, passing_other}
use Rattle.core_journal.proofs.EachIsCounted.{own_none, own_only}
use Rattle.core_journal.proofs.passing.own_changes_are_counted.Goals as goal

pub returns-clause-opening : goal.returns-clause-opening
returns-clause-opening c = λ caller. passing-nil (is_own_change caller)

pub returns-clause-one : goal.returns-clause-one
returns-clause-one c = λ caller past e by does. passing_one (is_own_change caller) past e
    (own_change caller past e by does)

pub returns-clause-other : goal.returns-clause-other
returns-clause-other c = λ caller past e h. passing_other (is_own_change caller) past e (other_change caller past e h)

pub returns-clause-none : goal.returns-clause-none
returns-clause-none c = λ caller front journal p same n e far at by. own_none caller front journal p same n e far at by

pub returns-clause-only : goal.returns-clause-only
returns-clause-only c = λ caller front journal p one m n d e far at by does far_n at_n by_n does_n. own_only caller
    front journal p one m n d e far at by does far_n at_n by_n does_n
