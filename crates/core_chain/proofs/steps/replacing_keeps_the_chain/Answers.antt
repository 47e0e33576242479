-- A node that is put behind the one that it replaces keeps the chain.
use Rattle.core_chain.proofs.Inserts.{IsChain-replaced, IsOn-replaced, Keeps-replaced}
use Rattle.core_chain.proofs.steps.replacing_keeps_the_chain.Goals as goal

pub returns-clause-chain : goal.returns-clause-chain
returns-clause-chain c = IsChain-replaced

pub returns-clause-nodes : goal.returns-clause-nodes
returns-clause-nodes c = IsOn-replaced

pub returns-clause-keeps : goal.returns-clause-keeps
returns-clause-keeps c = Keeps-replaced
