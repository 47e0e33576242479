use Rattle.core_stretches.proofs.MakesAddUp.{makes_self, makes_look, makes_won, makes_stored, makes_chain}
use Rattle.core_stretches.proofs.stretches.own_events_follow_one_another.Goals as goal

pub returns-clause-same : goal.returns-clause-same
returns-clause-same c = makes_self

pub returns-clause-look : goal.returns-clause-look
returns-clause-look c = makes_look

pub returns-clause-won : goal.returns-clause-won
returns-clause-won c = makes_won

pub returns-clause-stored : goal.returns-clause-stored
returns-clause-stored c = makes_stored

pub returns-clause-chain : goal.returns-clause-chain
returns-clause-chain c = makes_chain
