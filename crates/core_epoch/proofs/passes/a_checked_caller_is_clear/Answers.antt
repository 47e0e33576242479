use Rattle.core_epoch.proofs.Births.{found_clear, clear_kept, checks_clear}
use Rattle.core_epoch.proofs.passes.a_checked_caller_is_clear.Goals as goal

pub returns-clause-found : goal.returns-clause-found
returns-clause-found c = found_clear

pub returns-clause-step : goal.returns-clause-step
returns-clause-step c = λ callers seen caller old new. clear_kept callers old new seen caller

pub returns-clause-checks : goal.returns-clause-checks
returns-clause-checks c = checks_clear
