use Rattle.std.proofs.Common.{ap, ◌∙◌}
use Rattle.core_rule.specs.Plays.{stays}
use Rattle.graph_table.specs.Tokens.{TokenValue}
use Rattle.graph_updates.proofs.SplitHands.{split_hand}
use Rattle.shared_graph.proofs.hands.copy_front.Goals as goal

pub returns-clause-hand : goal.returns-clause-hand
returns-clause-hand c = split_hand c.args.table.now c.args.hand.now c.split_token.new.token
    (c.split_token.ensures.kept ∙ ap (λ (t : TokenValue). stays t.view) c.token.ensures.lent)
    c.split_token.ensures.table c.requires.hand
