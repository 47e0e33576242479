use Rattle.core_lists.proofs.ListHoldsKept.{sources}
use Rattle.core_lists.proofs.lists.linked_edges_are_at_their_source.Goals as goal

pub returns : goal.returns
returns c = λ sizes z journal kept. sources sizes z journal kept
