-- Each step keeps the chain, whichever it is.
use Rattle.core_chain.specs.Chain.{Chain, Head, Next, IsChain}
use Rattle.core_chain.specs.Steps.{Step, insert, mark, replace, unlink, freeze_head, freeze, Keeps}
use Rattle.core_chain.proofs.Inserts.{IsChain-inserted, Keeps-inserted, IsChain-replaced, Keeps-replaced}
use Rattle.core_chain.proofs.Unlinks.{IsChain-unlinked, Keeps-unlinked}
use Rattle.core_chain.proofs.Marks.{IsChain-marked, Keeps-marked}

-- a chain stays a chain
pub IsChain-step : (c d : Chain) → IsChain c → Step c d → IsChain d
IsChain-step c d chain (insert at node step) = IsChain-inserted c d at node chain step
IsChain-step c d chain (mark node step) = IsChain-marked c d (Next node) chain step.sets
IsChain-step c d chain (replace node fresh step) = IsChain-replaced c d node fresh chain step
IsChain-step c d chain (unlink at node step) = IsChain-unlinked c d at node chain step
IsChain-step c d chain (freeze_head step) = IsChain-marked c d Head chain step
IsChain-step c d chain (freeze end node step) = IsChain-marked c d (Next node) chain step.sets

-- and nothing is taken back
pub Keeps-step : (c d : Chain) → IsChain c → Step c d → Keeps c d
Keeps-step c d chain (insert at node step) = Keeps-inserted c d at node chain step
Keeps-step c d chain (mark node step) = Keeps-marked c d (Next node) chain step.sets
Keeps-step c d chain (replace node fresh step) = Keeps-replaced c d node fresh chain step
Keeps-step c d chain (unlink at node step) = Keeps-unlinked c d at node chain step
Keeps-step c d chain (freeze_head step) = Keeps-marked c d Head chain step
Keeps-step c d chain (freeze end node step) = Keeps-marked c d (Next node) chain step.sets
