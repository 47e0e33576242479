-- What is met and what is a chain are one.
use Rattle.core_chain.proofs.Meets.{IsMet-from_chain, IsMet-from_Meets, Meets-unique, IsChain-from_IsMet}
use Rattle.core_chain.proofs.met.a_chain_is_what_is_met.Goals as goal

pub returns-clause-met : goal.returns-clause-met
returns-clause-met c = IsMet-from_chain

pub returns-clause-whole : goal.returns-clause-whole
returns-clause-whole c = IsMet-from_Meets

pub returns-clause-one : goal.returns-clause-one
returns-clause-one c = Meets-unique

pub returns-clause-back : goal.returns-clause-back
returns-clause-back c = IsChain-from_IsMet
