use Rattle.graph_kinds.proofs.PathsPairs.{neighbours_law, rising_law}
use Rattle.graph_kinds.proofs.path_laws.neighbours_rise.Goals as goal

pub returns : goal.returns
returns c = record { pairs = neighbours_law; rising = rising_law }
