-- A frozen part grows by one word at a time.
use Rattle.core_chain.specs.Chain.{Next}
use Rattle.core_chain.proofs.Freezes.{IsFrozenTo-head, IsFrozenTo-node}
use Rattle.core_chain.proofs.Marks.{IsChain-marked}
use Rattle.core_chain.proofs.steps.freezing_keeps_the_chain.Goals as goal

pub returns-clause-head : goal.returns-clause-head
returns-clause-head c = IsFrozenTo-head

pub returns-clause-node : goal.returns-clause-node
returns-clause-node c = IsFrozenTo-node

pub returns-clause-chain : goal.returns-clause-chain
returns-clause-chain c = λ old new end node chain f. IsChain-marked old new (Next node) chain f.sets
