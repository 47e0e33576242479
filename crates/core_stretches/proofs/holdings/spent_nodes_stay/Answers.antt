use Rattle.core_stretches.proofs.HoldingsStay.{makes_spent, makes_retired}
use Rattle.core_stretches.proofs.holdings.spent_nodes_stay.Goals as goal

pub returns-clause-spent : goal.returns-clause-spent
returns-clause-spent c = makes_spent

pub returns-clause-retired : goal.returns-clause-retired
returns-clause-retired c = makes_retired
