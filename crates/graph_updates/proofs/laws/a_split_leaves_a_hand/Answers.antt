use Rattle.graph_updates.proofs.SplitHands.{split_closed, split_hand, split_order}
use Rattle.graph_updates.proofs.laws.a_split_leaves_a_hand.Goals as goal

pub returns-clause-hand : goal.returns-clause-hand
returns-clause-hand c = λ g h t of is k. split_hand g h t is of k

pub returns-clause-closed : goal.returns-clause-closed
returns-clause-closed c = λ h t is k. split_closed h t is k

pub returns-clause-order : goal.returns-clause-order
returns-clause-order c = λ g h t is of k. split_order g h t is k
