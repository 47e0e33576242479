use Rattle.graph_kinds.proofs.CostsLeast.{least_law, no_cost_law, itself_law}
use Rattle.graph_kinds.proofs.path_laws.least_costs_are_least.Goals as goal

pub returns : goal.returns
returns c = record { least = least_law; none = no_cost_law; itself = itself_law }
