use Rattle.std.proofs.Common.{◌≡◌, ap, ◌∙◌}
use Rattle.core_rule.specs.Plays.{stays}
use Rattle.core_rule.specs.declared.view.View.{View}
use Rattle.graph_table.specs.Tokens.{TokenValue}
use Rattle.graph_updates.proofs.SplitHands.{split_closed, split_hand, split_order}
use Rattle.hand_rows.proofs.pairs.split.Goals as goal

pub returns-clause-hand : goal.returns-clause-hand
returns-clause-hand c = split_hand c.args.table.now c.args.hand.now c.split_token.new.token
    (c.split_token.ensures.kept ∙ ap (λ (t : TokenValue). stays t.view) c.token.ensures.lent)
    c.split_token.ensures.table c.requires.hand

pub returns-clause-closed : goal.returns-clause-closed
returns-clause-closed c = split_closed c.args.hand.now c.split_token.new.token
    (c.split_token.ensures.kept ∙ ap (λ (t : TokenValue). stays t.view) c.token.ensures.lent) c.requires.closed

pub returns-clause-order : goal.returns-clause-order
returns-clause-order c = split_order c.args.table.now c.args.hand.now c.split_token.new.token
    (c.split_token.ensures.kept ∙ ap (λ (t : TokenValue). stays t.view) c.token.ensures.lent) c.requires.order
