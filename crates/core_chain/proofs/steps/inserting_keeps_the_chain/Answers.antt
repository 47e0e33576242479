-- A node that is inserted between its neighbours keeps the chain.
use Rattle.core_chain.proofs.Inserts.{IsChain-inserted, IsOn-inserted, Keeps-inserted}
use Rattle.core_chain.proofs.steps.inserting_keeps_the_chain.Goals as goal

pub returns-clause-chain : goal.returns-clause-chain
returns-clause-chain c = IsChain-inserted

pub returns-clause-nodes : goal.returns-clause-nodes
returns-clause-nodes c = IsOn-inserted

pub returns-clause-keeps : goal.returns-clause-keeps
returns-clause-keeps c = Keeps-inserted
