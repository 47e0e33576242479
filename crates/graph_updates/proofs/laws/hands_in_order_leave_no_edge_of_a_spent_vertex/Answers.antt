use Rattle.graph_updates.proofs.SplitHands.{no_edge_of_spent}
use Rattle.graph_updates.proofs.laws.hands_in_order_leave_no_edge_of_a_spent_vertex.Goals as goal

pub returns : goal.returns
returns c = λ g h of order. no_edge_of_spent h.token.view h.limbo of.of.layout of.of.sound.kept of.limbo
    order.nodes.spent
