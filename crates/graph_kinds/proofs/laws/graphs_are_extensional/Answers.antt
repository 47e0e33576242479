use Rattle.graph_kinds.proofs.Graphs.{same_graph}
use Rattle.graph_kinds.proofs.Calls.{alike-same}
use Rattle.graph_kinds.proofs.laws.graphs_are_extensional.Goals as goal

pub returns-clause-same : goal.returns-clause-same
returns-clause-same c = same_graph

pub returns-clause-alike : goal.returns-clause-alike
returns-clause-alike c = alike-same
