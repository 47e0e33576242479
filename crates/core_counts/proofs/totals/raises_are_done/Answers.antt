use Rattle.core_counts.proofs.RaisesOfEdges.{once_opening, once_stays, once_raise, once_done, once_lost, once_links}
use Rattle.core_counts.proofs.RaisesOfEdges.{once_few, once_apart}
use Rattle.core_counts.proofs.totals.raises_are_done.Goals as goal

pub returns-clause-opening : goal.returns-clause-opening
returns-clause-opening c = λ caller. once_opening caller

pub returns-clause-stays : goal.returns-clause-stays
returns-clause-stays c = λ caller again held start front journal p same a. once_stays caller again held start front
    journal p same a

pub returns-clause-raise : goal.returns-clause-raise
returns-clause-raise c = λ caller again held start past e x p n new a. once_raise caller again held start past e x p n
    new a

pub returns-clause-done : goal.returns-clause-done
returns-clause-done c = λ caller again held start journal p h a. once_done caller again held start journal p h a

pub returns-clause-lost : goal.returns-clause-lost
returns-clause-lost c = λ caller again x held start journal p h a. once_lost caller again x held start journal p h a

pub returns-clause-links : goal.returns-clause-links
returns-clause-links c = λ caller again held start journal a. once_links caller again held start journal a

pub returns-clause-few : goal.returns-clause-few
returns-clause-few c = λ sizes z start journal kept caller again held a. once_few sizes z start journal kept caller
    again held a

pub returns-clause-apart : goal.returns-clause-apart
returns-clause-apart c = λ caller again held start journal a. once_apart caller again held start journal a
