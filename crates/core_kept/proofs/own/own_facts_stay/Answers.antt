use Rattle.core_kept.proofs.OwnFacts.{pass_stays, fresh_stays, none_fresh_stays}
use Rattle.core_kept.proofs.own.own_facts_stay.Goals as goal

pub returns-clause-pass : goal.returns-clause-pass
returns-clause-pass c = λ sizes caller last front journal p kept quiet old. pass_stays sizes caller last front journal p
    kept quiet old

pub returns-clause-fresh : goal.returns-clause-fresh
returns-clause-fresh c = λ sizes z caller last x there front journal p kept quiet old f. fresh_stays sizes z caller last
    x there front journal p kept quiet old f

pub returns-clause-none_fresh : goal.returns-clause-none_fresh
returns-clause-none_fresh c = λ sizes caller last front journal p kept quiet old h. none_fresh_stays sizes caller last
    front journal p kept quiet old h
