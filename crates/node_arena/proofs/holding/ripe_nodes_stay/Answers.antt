use Rattle.node_arena.proofs.RipeNodesStay.{makes_givable}
use Rattle.node_arena.proofs.holding.ripe_nodes_stay.Goals as goal

pub returns : goal.returns
returns c = record { givable = makes_givable }
