-- A chain that is frozen to its end has no unmarked word.
use Rattle.core_chain.proofs.Freezes.{mark-at_end, Untouched-frozen}
use Rattle.core_chain.proofs.steps.a_frozen_chain_rests.Goals as goal

pub returns-clause-marked : goal.returns-clause-marked
returns-clause-marked c = λ chain end p is frozen none on. mark-at_end chain end is frozen none p on

pub returns-clause-untouched : goal.returns-clause-untouched
returns-clause-untouched c = Untouched-frozen
