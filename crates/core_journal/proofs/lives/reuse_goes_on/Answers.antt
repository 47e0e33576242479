use Rattle.core_journal.proofs.Reuses.{reuse_nil, reuse_snoc}
use Rattle.core_journal.proofs.lives.reuse_goes_on.Goals as goal

pub returns-clause-opening : goal.returns-clause-opening
returns-clause-opening c = λ sizes. reuse_nil sizes

pub returns-clause-next : goal.returns-clause-next
returns-clause-next c = λ sizes past e r over. reuse_snoc sizes past e r over
