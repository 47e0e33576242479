use Rattle.core_journal.proofs.Lists.{prefix_take}
use Rattle.core_journal.proofs.lives.prefixes_chain.Goals as goal

pub returns-clause-taken : goal.returns-clause-taken
returns-clause-taken c = λ journal n. prefix_take journal n
