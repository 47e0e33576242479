use Rattle.std.proofs.Common.{subst}
use Rattle.core_rule.specs.Plays.{Met, both_fronts}
use Rattle.graph_table.specs.Tokens.{TokenValue}
use Rattle.shared_graph.proofs.LookingOn.{looking_closed, looking_hand, looking_order, met_sight}
use Rattle.shared_graph.proofs.hands.meet_front.Goals as goal

pub returns-clause-hand : goal.returns-clause-hand
returns-clause-hand c =
    let n = c.args.other.view in
    let w = c.join_token.new.token.view in
    let m = subst (λ (t : TokenValue). Met (both_fronts t.view n) w) c.token.ensures.lent c.join_token.ensures.joined in
    looking_hand c.args.table.now c.args.hand.now c.join_token.new.token c.requires.hand c.join_token.ensures.table
    m.grows (met_sight c.args.hand.now.token.view n w m)

pub returns-clause-closed : goal.returns-clause-closed
returns-clause-closed c =
    let n = c.args.other.view in
    let w = c.join_token.new.token.view in
    let m = subst (λ (t : TokenValue). Met (both_fronts t.view n) w) c.token.ensures.lent c.join_token.ensures.joined in
    looking_closed c.args.table.now c.args.hand.now c.join_token.new.token c.requires.hand c.join_token.ensures.table
    m.grows (met_sight c.args.hand.now.token.view n w m) c.requires.closed

pub returns-clause-order : goal.returns-clause-order
returns-clause-order c =
    let n = c.args.other.view in
    let w = c.join_token.new.token.view in
    let m = subst (λ (t : TokenValue). Met (both_fronts t.view n) w) c.token.ensures.lent c.join_token.ensures.joined in
    looking_order c.args.table.now c.args.hand.now c.join_token.new.token c.requires.hand c.join_token.ensures.table
    m.grows (met_sight c.args.hand.now.token.view n w m) c.requires.closed c.requires.order
