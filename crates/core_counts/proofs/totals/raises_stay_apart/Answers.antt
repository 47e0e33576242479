use Rattle.core_counts.proofs.RaisesOfEdges.{apart_opening, apart_others, apart_other, apart_raise}
use Rattle.core_counts.proofs.totals.raises_stay_apart.Goals as goal

pub returns-clause-opening : goal.returns-clause-opening
returns-clause-opening c = λ caller. apart_opening caller

pub returns-clause-others : goal.returns-clause-others
returns-clause-others c = λ caller again last front journal p old quiet a. apart_others caller again last front journal
    p old quiet a

pub returns-clause-other_kind : goal.returns-clause-other_kind
returns-clause-other_kind c = λ caller again past e is a. apart_other caller again past e is a

pub returns-clause-raise : goal.returns-clause-raise
returns-clause-raise c = λ caller again past e x is a new. apart_raise caller again past e x is a new
