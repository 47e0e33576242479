use Rattle.core_stretches.proofs.HoldingsStay.{makes_none, makes_fresh, makes_fresh_by_kind}
use Rattle.core_stretches.proofs.holdings.fresh_nodes_stay.Goals as goal

pub returns-clause-none : goal.returns-clause-none
returns-clause-none c = makes_none

pub returns-clause-fresh : goal.returns-clause-fresh
returns-clause-fresh c = makes_fresh

pub returns-clause-by_kind : goal.returns-clause-by_kind
returns-clause-by_kind c = makes_fresh_by_kind
