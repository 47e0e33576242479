use Rattle.core_lists.proofs.EventKeepsRest.{one_fresh}
use Rattle.core_lists.proofs.own.a_caller_fills_one_node.Goals as goal

pub returns : goal.returns
returns c = λ sizes journal kept caller x y f g. one_fresh sizes journal kept caller x y f g
