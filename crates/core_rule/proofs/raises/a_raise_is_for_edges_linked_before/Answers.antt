use Rattle.core_rule.proofs.ViewShows.{raise_is_for}
use Rattle.core_rule.proofs.raises.a_raise_is_for_edges_linked_before.Goals as goal

pub returns : goal.returns
returns c = λ sizes past e kept is edge link linked. raise_is_for sizes past e kept is edge link linked
