use Rattle.std.proofs.Common.{subst, sym}
use Rattle.core_rule.specs.Fronts.{MetVertex}
use Rattle.core_rule.specs.Stretches.{HasPass}
use Rattle.graph_updates.specs.EdgeAdding.{MatchConcluded}
use Rattle.graph_updates.specs.Hands.{HandValue, IsHandOf}
use Rattle.graph_updates.specs.Parts.{HasHelped}
use Rattle.graph_updates.specs.contracts.hand.Hand.{the_view}
use Rattle.graph_updates.proofs.EndsTell.{looked, looked_helped, looked_of, met_helped}
use Rattle.graph_updates.proofs.HandsHelp.{has_helped_chain}
use Rattle.graph_updates.proofs.LocatingTells.{helped_grows}
use Rattle.graph_updates.proofs.NodesReady.{concluded_on}
use Rattle.graph_updates.proofs.SeekingSteps.{helps_pass}
use Rattle.graph_updates.proofs.edge_adding.conclude_at.Goals as goal

pub find_edge-requires-clause-hand : goal.find_edge-requires-clause-hand
find_edge-requires-clause-hand c =
    let g = c.args.table.now in
    let h = the_view c.hand.inside in
    let of : IsHandOf g h = subst (IsHandOf g) (sym c.hand.view_is) c.requires.hand in
    looked_of g h c.conclude-turn.new.token of c.conclude-turn.ensures.table c.conclude-turn.ensures.makes

pub find_edge-requires-clause-pass : goal.find_edge-requires-clause-pass
find_edge-requires-clause-pass c =
    let g = c.args.table.now in
    let h = the_view c.hand.inside in
    let t = c.conclude-turn.new.token in
    let of : IsHandOf g h = subst (IsHandOf g) (sym c.hand.view_is) c.requires.hand in
    helps_pass h.token.view t.view of.of.layout
    (looked_helped g h t of c.conclude-turn.ensures.table c.conclude-turn.ensures.makes).helped.only
    (subst (λ (q : HandValue). HasPass q.token.view) (sym c.hand.view_is) c.requires.pass)

pub find_edge-requires-clause-from : goal.find_edge-requires-clause-from
find_edge-requires-clause-from c =
    let g = c.args.table.now in
    let h = the_view c.hand.inside in
    let t = c.conclude-turn.new.token in
    let of : IsHandOf g h = subst (IsHandOf g) (sym c.hand.view_is) c.requires.hand in
    let now : HandValue = looked g h t of c.conclude-turn.ensures.table c.conclude-turn.ensures.makes in
    met_helped h now of.of.layout
    (looked_helped g h t of c.conclude-turn.ensures.table c.conclude-turn.ensures.makes) c.args.ends.from
    (subst (λ (q : HandValue). MetVertex q.token.view c.args.ends.from) (sym c.hand.view_is) c.requires.from)

pub returns-clause-helped : goal.returns-clause-helped
returns-clause-helped c =
    let g = c.args.table.now in
    let h = the_view c.hand.inside in
    let t = c.conclude-turn.new.token in
    let of : IsHandOf g h = subst (IsHandOf g) (sym c.hand.view_is) c.requires.hand in
    let now : HandValue = looked g h t of c.conclude-turn.ensures.table c.conclude-turn.ensures.makes in
    subst (λ (q : HandValue). HasHelped q c.find_edge.new.hand) c.hand.view_is
    (has_helped_chain h now c.find_edge.new.hand
    (looked_helped g h t of c.conclude-turn.ensures.table c.conclude-turn.ensures.makes) c.find_edge.ensures.helped)

pub returns-clause-concluded : goal.returns-clause-concluded
returns-clause-concluded c =
    let g = c.args.table.now in
    let h = the_view c.hand.inside in
    let t = c.conclude-turn.new.token in
    let of : IsHandOf g h = subst (IsHandOf g) (sym c.hand.view_is) c.requires.hand in
    let now : HandValue = looked g h t of c.conclude-turn.ensures.table c.conclude-turn.ensures.makes in
    let n = c.find_edge.new.hand in
    subst (λ (q : HandValue). MatchConcluded c.conclude-turn.result c.args.outcome c.args.ends q.token n.token)
    c.hand.view_is
    (concluded_on c.conclude-turn.result c.args.outcome c.args.ends h.token t n.token
    (helped_grows now n c.find_edge.ensures.helped) c.conclude-turn.ensures.concluded)
