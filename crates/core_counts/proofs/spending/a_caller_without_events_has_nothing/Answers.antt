use Rattle.core_counts.proofs.IdleCallers.{has_nothing}
use Rattle.core_counts.proofs.spending.a_caller_without_events_has_nothing.Goals as goal

pub returns-clause-pass : goal.returns-clause-pass
returns-clause-pass c = λ sizes z journal kept caller none. (has_nothing sizes z journal kept caller none).pass

pub returns-clause-fresh : goal.returns-clause-fresh
returns-clause-fresh c = λ sizes z journal kept caller none x. (has_nothing sizes z journal kept caller none).fresh x

pub returns-clause-spent : goal.returns-clause-spent
returns-clause-spent c = λ sizes z journal kept caller none x. (has_nothing sizes z journal kept caller none).spent x
