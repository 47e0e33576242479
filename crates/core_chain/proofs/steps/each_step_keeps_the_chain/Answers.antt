-- Each kind of step by its own law.
use Rattle.core_chain.proofs.Kept.{IsChain-step, Keeps-step}
use Rattle.core_chain.proofs.steps.each_step_keeps_the_chain.Goals as goal

pub returns-clause-chain : goal.returns-clause-chain
returns-clause-chain c = IsChain-step

pub returns-clause-keeps : goal.returns-clause-keeps
returns-clause-keeps c = Keeps-step
