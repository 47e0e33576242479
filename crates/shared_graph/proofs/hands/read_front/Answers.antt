use Rattle.std.proofs.Common.{[], subst, ◌∙◌, ap}
use Rattle.core_stretches.specs.Makes.{Makes}
use Rattle.graph_table.specs.Tokens.{TokenValue}
use Rattle.shared_graph.proofs.LookingOn.{looking_closed, looking_hand, looking_order, read_grows, read_sight}
use Rattle.shared_graph.proofs.hands.read_front.Goals as goal

pub returns-clause-hand : goal.returns-clause-hand
returns-clause-hand c =
    let v = c.args.hand.now.token.view in
    let w = c.read.new.token.view in
    let m = subst (λ (t : TokenValue). Makes t.view [] w) c.token.ensures.lent c.read.ensures.looks in
    let last = c.read.ensures.last ∙ ap (λ (t : TokenValue). t.view.last) c.token.ensures.lent in
    looking_hand c.args.table.now c.args.hand.now c.read.new.token c.requires.hand c.read.ensures.table
    (read_grows v w m) (read_sight v w m last)

pub returns-clause-closed : goal.returns-clause-closed
returns-clause-closed c =
    let v = c.args.hand.now.token.view in
    let w = c.read.new.token.view in
    let m = subst (λ (t : TokenValue). Makes t.view [] w) c.token.ensures.lent c.read.ensures.looks in
    let last = c.read.ensures.last ∙ ap (λ (t : TokenValue). t.view.last) c.token.ensures.lent in
    looking_closed c.args.table.now c.args.hand.now c.read.new.token c.requires.hand c.read.ensures.table
    (read_grows v w m) (read_sight v w m last) c.requires.closed

pub returns-clause-order : goal.returns-clause-order
returns-clause-order c =
    let v = c.args.hand.now.token.view in
    let w = c.read.new.token.view in
    let m = subst (λ (t : TokenValue). Makes t.view [] w) c.token.ensures.lent c.read.ensures.looks in
    let last = c.read.ensures.last ∙ ap (λ (t : TokenValue). t.view.last) c.token.ensures.lent in
    looking_order c.args.table.now c.args.hand.now c.read.new.token c.requires.hand c.read.ensures.table
    (read_grows v w m) (read_sight v w m last) c.requires.closed c.requires.order
