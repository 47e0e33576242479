use Rattle.core_worked.proofs.MomentsShown.{mark_found, two_gone, first_mark, link_changed, foreign_three, foreign_some}
use Rattle.core_worked.proofs.laws_moments.a_worked_vertex_goes.Goals as goal

pub returns-clause-mark : goal.returns-clause-mark
returns-clause-mark c = mark_found

pub returns-clause-gone : goal.returns-clause-gone
returns-clause-gone c = two_gone

pub returns-clause-first : goal.returns-clause-first
returns-clause-first c = first_mark

pub returns-clause-changed : goal.returns-clause-changed
returns-clause-changed c = link_changed

pub returns-clause-foreign : goal.returns-clause-foreign
returns-clause-foreign c = foreign_three

pub returns-clause-some : goal.returns-clause-some
returns-clause-some c = foreign_some
