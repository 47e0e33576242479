use Rattle.core_rule.proofs.OwnStretch.{goes_self, goes_opened, goes_between}
use Rattle.core_rule.proofs.stretches.a_view_goes_on_between.Goals as goal

pub returns-clause-same : goal.returns-clause-same
returns-clause-same c = λ v kept. goes_self v kept

pub returns-clause-opened : goal.returns-clause-opened
returns-clause-opened c = λ v w g o. goes_opened v w g o

pub returns-clause-between : goal.returns-clause-between
returns-clause-between c = λ v w g o middle p q. goes_between v w g o middle p q
