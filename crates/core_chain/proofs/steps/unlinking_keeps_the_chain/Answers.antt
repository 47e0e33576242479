-- A node that is unlinked from its predecessor keeps the chain.
use Rattle.core_chain.proofs.Unlinks.{IsChain-unlinked, IsOn-unlinked, Keeps-unlinked, onward-unlinked}
use Rattle.core_chain.proofs.steps.unlinking_keeps_the_chain.Goals as goal

pub returns-clause-chain : goal.returns-clause-chain
returns-clause-chain c = IsChain-unlinked

pub returns-clause-nodes : goal.returns-clause-nodes
returns-clause-nodes c = IsOn-unlinked

pub returns-clause-keeps : goal.returns-clause-keeps
returns-clause-keeps c = Keeps-unlinked

pub returns-clause-onward : goal.returns-clause-onward
returns-clause-onward c = onward-unlinked
