use Rattle.core_stretches.proofs.HoldingsStay.{makes_got, makes_got_unlink}
use Rattle.core_stretches.proofs.holdings.nodes_that_were_got_are_known.Goals as goal

pub returns-clause-none : goal.returns-clause-none
returns-clause-none c = makes_got

pub returns-clause-unlink : goal.returns-clause-unlink
returns-clause-unlink c = makes_got_unlink
