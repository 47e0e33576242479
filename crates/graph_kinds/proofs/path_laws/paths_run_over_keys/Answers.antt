use Rattle.graph_kinds.proofs.PathsPairs.{keys_law}
use Rattle.graph_kinds.proofs.path_laws.paths_run_over_keys.Goals as goal

pub returns : goal.returns
returns c = keys_law
