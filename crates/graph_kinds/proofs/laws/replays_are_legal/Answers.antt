use Rattle.std.proofs.Common.{refl}
use Rattle.graph_kinds.specs.Graph.{empty_graph}
use Rattle.graph_kinds.proofs.Calls.{replay_legal, length-answers}
use Rattle.graph_kinds.proofs.laws.replays_are_legal.Goals as goal

pub returns-clause-interleaving : goal.returns-clause-interleaving
returns-clause-interleaving c = λ rows. record { one_each = length-answers empty_graph rows; in_order = λ caller. refl }

pub returns-clause-legal : goal.returns-clause-legal
returns-clause-legal c = λ rows. record { steps = replay_legal empty_graph rows }
