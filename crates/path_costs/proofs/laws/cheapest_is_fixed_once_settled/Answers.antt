use Rattle.path_costs.proofs.Settling.{settled_tree}
use Rattle.path_costs.proofs.laws.cheapest_is_fixed_once_settled.Goals as goal

pub returns : goal.returns
returns c = λ s scan is last now. settled_tree s scan is last now
