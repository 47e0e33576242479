-- A chain on which nothing changes.
use Rattle.core_chain.proofs.Marks.{IsChain-untouched, IsFrozenTo-untouched}
use Rattle.core_chain.proofs.steps.what_is_untouched_stays_a_chain.Goals as goal

pub returns-clause-chain : goal.returns-clause-chain
returns-clause-chain c = IsChain-untouched

pub returns-clause-frozen : goal.returns-clause-frozen
returns-clause-frozen c = IsFrozenTo-untouched
