-- Nothing stands in a gap.
use Rattle.core_chain.proofs.Walks.{none_of_key}
use Rattle.core_chain.proofs.walk.a_key_that_is_passed_is_absent.Goals as goal

pub returns : goal.returns
returns c = none_of_key
