-- The order of the rest is that of the chain.
use Rattle.core_chain.proofs.Walks.{IsChain-rest}
use Rattle.core_chain.proofs.walk.the_rest_behind_a_word_is_a_chain.Goals as goal

pub returns : goal.returns
returns c = IsChain-rest
