use Rattle.std.proofs.Common.{◌<◌, sym, subst}
use Rattle.core_journal.specs.Event.{raises}
use Rattle.core_kept.specs.Counts.{made, most_raises}
use Rattle.core_rule.specs.Stretches.{HasPass}
use Rattle.core_rule.specs.Views.{GoesOn}
use Rattle.edge_list.specs.EdgePositions.{IsSeenEdge}
use Rattle.graph_updates.specs.contracts.hand.Hand.{the_view}
use Rattle.graph_updates.specs.EdgeRemoving.{MatchMarkedOnce, RaisesSince}
use Rattle.graph_updates.specs.Hands.{HandValue, HasItsNodes, IsHandOf}
use Rattle.graph_updates.proofs.AddingTries.{with_spare}
use Rattle.graph_updates.proofs.EdgeMarkingTells.{few_raises, keeps_goes, keeps_hand, keeps_nodes, keeps_pass}
use Rattle.graph_updates.proofs.EdgeMarkingTells.{marked_once}
use Rattle.graph_updates.proofs.EdgeMarkingTells.{marking_keeps, marking_raises}
use Rattle.graph_updates.proofs.edge_removing.mark_once.Goals as goal

pub raise-raised-requires-clause-limit : goal.raise-raised-requires-clause-limit
raise-raised-requires-clause-limit c =
    subst (λ (q : HandValue). made raises q.token.view.number q.token.view.front < most_raises) (sym c.hand.view_is)
    (few_raises c.args.table.now c.args.hand.now c.requires.hand c.requires.raised)

pub returns-clause-hand : goal.returns-clause-hand
returns-clause-hand c =
    let g = c.args.table.now in
    let h = the_view c.hand.inside in
    let of : IsHandOf g h = subst (IsHandOf g) (sym c.hand.view_is) c.requires.hand in
    keeps_hand g h c.mark.new.token of c.mark.ensures.table
    (marking_keeps c.mark.result c.args.from c.args.seen.now.edge c.raise-raised.result h.token.view
    c.raise-raised.new.token.view c.mark.new.token.view c.raise-raised.ensures.raised c.mark.ensures.marked)

pub returns-clause-pass : goal.returns-clause-pass
returns-clause-pass c =
    let g = c.args.table.now in
    let h = the_view c.hand.inside in
    let of : IsHandOf g h = subst (IsHandOf g) (sym c.hand.view_is) c.requires.hand in
    keeps_pass g h c.mark.new.token of c.mark.ensures.table
    (marking_keeps c.mark.result c.args.from c.args.seen.now.edge c.raise-raised.result h.token.view
    c.raise-raised.new.token.view c.mark.new.token.view c.raise-raised.ensures.raised c.mark.ensures.marked)
    (subst (λ (q : HandValue). HasPass q.token.view) (sym c.hand.view_is) c.requires.pass)

pub returns-clause-nodes : goal.returns-clause-nodes
returns-clause-nodes c =
    let g = c.args.table.now in
    let h = the_view c.hand.inside in
    let of : IsHandOf g h = subst (IsHandOf g) (sym c.hand.view_is) c.requires.hand in
    keeps_nodes g h c.mark.new.token of c.mark.ensures.table
    (marking_keeps c.mark.result c.args.from c.args.seen.now.edge c.raise-raised.result h.token.view
    c.raise-raised.new.token.view c.mark.new.token.view c.raise-raised.ensures.raised c.mark.ensures.marked)
    (subst HasItsNodes (sym c.hand.view_is) c.requires.nodes)

pub returns-clause-raised : goal.returns-clause-raised
returns-clause-raised c =
    let h = the_view c.hand.inside in
    let moment = c.args.seen.now.moment.value.view.front in
    let seen : IsSeenEdge h.token.view c.args.from c.args.seen.now.edge moment = subst
    (λ (q : HandValue). IsSeenEdge q.token.view c.args.from c.args.seen.now.edge moment) (sym c.hand.view_is)
    c.requires.seen in
    subst (λ (q : HandValue). RaisesSince c.args.from moment q.token.view c.mark.new.token.view) c.hand.view_is
    (marking_raises c.mark.result c.args.from c.args.seen.now.edge c.raise-raised.result moment h.token.view
    c.raise-raised.new.token.view c.mark.new.token.view seen c.raise-raised.ensures.raised c.mark.ensures.marked)

pub returns-clause-marked : goal.returns-clause-marked
returns-clause-marked c =
    let g = c.args.table.now in
    let h = the_view c.hand.inside in
    let u = c.mark.new.token in
    let s = c.args.seen.now in
    let of : IsHandOf g h = subst (IsHandOf g) (sym c.hand.view_is) c.requires.hand in
    let nodes : HasItsNodes h = subst HasItsNodes (sym c.hand.view_is) c.requires.nodes in
    let seen : IsSeenEdge h.token.view c.args.from s.edge s.moment.value.view.front = subst
    (λ (q : HandValue). IsSeenEdge q.token.view c.args.from s.edge s.moment.value.view.front) (sym c.hand.view_is)
    c.requires.seen in
    let kept : HasItsNodes (with_spare h u h.spare) = keeps_nodes g h u of c.mark.ensures.table
    (marking_keeps c.mark.result c.args.from s.edge c.raise-raised.result h.token.view c.raise-raised.new.token.view
    u.view c.raise-raised.ensures.raised c.mark.ensures.marked) nodes in
    subst (λ (q : HandValue). MatchMarkedOnce c.mark.result c.args.from s q (with_spare h u h.spare)) c.hand.view_is
    (marked_once g h c.raise-raised.new.token u c.args.from s c.raise-raised.result of c.raise-raised.ensures.table
    c.mark.ensures.table nodes seen c.raise-raised.ensures.raised c.mark.result kept c.mark.ensures.marked)

pub returns-clause-goes : goal.returns-clause-goes
returns-clause-goes c =
    let g = c.args.table.now in
    let h = the_view c.hand.inside in
    let u = c.mark.new.token in
    let of : IsHandOf g h = subst (IsHandOf g) (sym c.hand.view_is) c.requires.hand in
    subst (λ (q : HandValue). GoesOn q.token.view u.view) c.hand.view_is
    (keeps_goes g h u of c.mark.ensures.table
    (marking_keeps c.mark.result c.args.from c.args.seen.now.edge c.raise-raised.result h.token.view
    c.raise-raised.new.token.view u.view c.raise-raised.ensures.raised c.mark.ensures.marked))
