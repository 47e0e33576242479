-- A mark keeps the chain.
use Rattle.core_chain.proofs.Marks.{IsChain-marked, IsOn-marked, Keeps-marked}
use Rattle.core_chain.proofs.steps.marking_keeps_the_chain.Goals as goal

pub returns-clause-chain : goal.returns-clause-chain
returns-clause-chain c = IsChain-marked

pub returns-clause-nodes : goal.returns-clause-nodes
returns-clause-nodes c = IsOn-marked

pub returns-clause-keeps : goal.returns-clause-keeps
returns-clause-keeps c = Keeps-marked
