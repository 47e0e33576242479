use Rattle.std.proofs.Common.{◌<◌, subst, sym}
use Rattle.core_journal.specs.Event.{moves}
use Rattle.core_kept.specs.Counts.{made, most_moves}
use Rattle.core_rule.specs.Stretches.{HasPass}
use Rattle.graph_updates.specs.Ending.{IsFinished}
use Rattle.graph_updates.specs.Hands.{HandValue, IsHandOf, IsInOrder}
use Rattle.graph_updates.specs.contracts.hand.Hand.{the_view}
use Rattle.graph_updates.proofs.EndingTells.{at_rest, ended, ended_finished, ended_hand, ended_order, ending_limbo}
use Rattle.graph_updates.proofs.EndingTells.{ending_limit, ending_there, rest_finished, rest_hand, rest_order}
use Rattle.graph_updates.proofs.ending.finish.Goals as goal

pub tidy-requires-clause-there : goal.tidy-requires-clause-there
tidy-requires-clause-there c =
    let g = c.args.table.now in
    let old = the_view c.hand.inside in
    let h = subst (λ (k : HandValue). IsHandOf g k) (sym c.hand.view_is) c.requires.hand in
    let pass = subst (λ (k : HandValue). HasPass k.token.view) (sym c.hand.view_is) c.requires.pass in
    let t = c.close_pass.new.token in
    let makes = c.close_pass.ensures.makes in
    let closed = c.close_pass.ensures.closed in
    ending_there g old t h pass makes closed

pub tidy-requires-clause-limit : goal.tidy-requires-clause-limit
tidy-requires-clause-limit c =
    let g = c.args.table.now in
    let old = the_view c.hand.inside in
    let h = subst (λ (k : HandValue). IsHandOf g k) (sym c.hand.view_is) c.requires.hand in
    let pass = subst (λ (k : HandValue). HasPass k.token.view) (sym c.hand.view_is) c.requires.pass in
    let t = c.close_pass.new.token in
    let makes = c.close_pass.ensures.makes in
    let closed = c.close_pass.ensures.closed in
    ending_limit g old t h pass makes closed
    (subst (λ (k : HandValue). made moves k.token.view.number k.token.view.front < most_moves) (sym c.hand.view_is)
    c.requires.limit)

pub tidy-requires-clause-limbo : goal.tidy-requires-clause-limbo
tidy-requires-clause-limbo c =
    let g = c.args.table.now in
    let old = the_view c.hand.inside in
    let h = subst (λ (k : HandValue). IsHandOf g k) (sym c.hand.view_is) c.requires.hand in
    let pass = subst (λ (k : HandValue). HasPass k.token.view) (sym c.hand.view_is) c.requires.pass in
    let t = c.close_pass.new.token in
    let makes = c.close_pass.ensures.makes in
    let closed = c.close_pass.ensures.closed in
    ending_limbo g old t h pass makes closed

pub returns-then-hand-clause-hand : goal.returns-then-hand-clause-hand
returns-then-hand-clause-hand c =
    let g = c.args.table.now in
    let old = the_view c.hand.inside in
    let h = subst (λ (k : HandValue). IsHandOf g k) (sym c.hand.view_is) c.requires.hand in
    let pass = subst (λ (k : HandValue). HasPass k.token.view) (sym c.hand.view_is) c.requires.pass in
    let t = c.close_pass.new.token in
    let makes = c.close_pass.ensures.makes in
    let closed = c.close_pass.ensures.closed in
    let limbo = c.tidy.new.limbo in
    let u = c.tidy.new.token in
    let tidied = c.tidy.ensures.tidied in
    ended_hand g old t h pass makes closed c.if-hand.true limbo u tidied c.tidy.ensures.table

pub returns-then-hand-clause-order : goal.returns-then-hand-clause-order
returns-then-hand-clause-order c = λ ord.
    let g = c.args.table.now in
    let old = the_view c.hand.inside in
    let h = subst (λ (k : HandValue). IsHandOf g k) (sym c.hand.view_is) c.requires.hand in
    let pass = subst (λ (k : HandValue). HasPass k.token.view) (sym c.hand.view_is) c.requires.pass in
    let t = c.close_pass.new.token in
    let makes = c.close_pass.ensures.makes in
    let closed = c.close_pass.ensures.closed in
    let limbo = c.tidy.new.limbo in
    let u = c.tidy.new.token in
    let tidied = c.tidy.ensures.tidied in
    ended_order g old t h pass makes closed c.if-hand.true limbo u tidied (subst IsInOrder (sym c.hand.view_is) ord)

pub returns-then-hand-clause-finished : goal.returns-then-hand-clause-finished
returns-then-hand-clause-finished c =
    let g = c.args.table.now in
    let old = the_view c.hand.inside in
    let h = subst (λ (k : HandValue). IsHandOf g k) (sym c.hand.view_is) c.requires.hand in
    let pass = subst (λ (k : HandValue). HasPass k.token.view) (sym c.hand.view_is) c.requires.pass in
    let t = c.close_pass.new.token in
    let makes = c.close_pass.ensures.makes in
    let closed = c.close_pass.ensures.closed in
    let limbo = c.tidy.new.limbo in
    let u = c.tidy.new.token in
    let tidied = c.tidy.ensures.tidied in
    let some = c.if-hand.true in
    subst (λ (k : HandValue). IsFinished k (ended g old t h pass makes closed some limbo u tidied)) c.hand.view_is
    (ended_finished g old t h pass makes closed some limbo u tidied)

pub returns-else-hand-clause-hand : goal.returns-else-hand-clause-hand
returns-else-hand-clause-hand c =
    let g = c.args.table.now in
    let old = the_view c.hand.inside in
    let h = subst (λ (k : HandValue). IsHandOf g k) (sym c.hand.view_is) c.requires.hand in
    let pass = subst (λ (k : HandValue). HasPass k.token.view) (sym c.hand.view_is) c.requires.pass in
    let t = c.close_pass.new.token in
    let makes = c.close_pass.ensures.makes in
    let closed = c.close_pass.ensures.closed in
    rest_hand g old t h pass makes closed c.if-hand.false c.close_pass.ensures.table

pub returns-else-hand-clause-order : goal.returns-else-hand-clause-order
returns-else-hand-clause-order c = λ ord.
    let g = c.args.table.now in
    let old = the_view c.hand.inside in
    let h = subst (λ (k : HandValue). IsHandOf g k) (sym c.hand.view_is) c.requires.hand in
    let pass = subst (λ (k : HandValue). HasPass k.token.view) (sym c.hand.view_is) c.requires.pass in
    let t = c.close_pass.new.token in
    let makes = c.close_pass.ensures.makes in
    let closed = c.close_pass.ensures.closed in
    rest_order g old t h pass makes closed c.if-hand.false (subst IsInOrder (sym c.hand.view_is) ord)

pub returns-else-hand-clause-finished : goal.returns-else-hand-clause-finished
returns-else-hand-clause-finished c =
    let g = c.args.table.now in
    let old = the_view c.hand.inside in
    let h = subst (λ (k : HandValue). IsHandOf g k) (sym c.hand.view_is) c.requires.hand in
    let pass = subst (λ (k : HandValue). HasPass k.token.view) (sym c.hand.view_is) c.requires.pass in
    let t = c.close_pass.new.token in
    let makes = c.close_pass.ensures.makes in
    let closed = c.close_pass.ensures.closed in
    subst (λ (k : HandValue). IsFinished k (at_rest g old t h pass makes closed c.if-hand.false)) c.hand.view_is
    (rest_finished g old t h pass makes closed c.if-hand.false)
