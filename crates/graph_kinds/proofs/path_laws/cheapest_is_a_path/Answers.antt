use Rattle.graph_kinds.proofs.CostsOnly.{only_law}
use Rattle.graph_kinds.proofs.CostsCheapest.{cheapest_path_law, cost_law, keys_law, itself_law}
use Rattle.graph_kinds.proofs.path_laws.cheapest_is_a_path.Goals as goal

pub returns : goal.returns
returns c = record { path = cheapest_path_law; cost = cost_law; keys = keys_law; only = only_law; itself = itself_law }
