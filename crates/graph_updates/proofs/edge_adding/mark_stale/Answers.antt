use Rattle.std.proofs.Common.{◌≡◌, ◌<◌, Option, Some, sym, subst, true}
use Rattle.core_journal.specs.Event.{raises}
use Rattle.core_journal.specs.Life.{vertex_marked}
use Rattle.core_kept.specs.Counts.{made, most_raises}
use Rattle.core_rule.specs.Stretches.{HasPass}
use Rattle.core_rule.specs.Views.{GoesOn}
use Rattle.edge_list.specs.EdgeMarks.{RaisedValue}
use Rattle.edge_list.specs.EdgePositions.{IsSeenEdge}
use Rattle.graph_updates.specs.contracts.hand.Hand.{the_view}
use Rattle.graph_updates.specs.EdgeLocating.{WasEdgeHere}
use Rattle.graph_updates.specs.EdgeRaises.{RaisesFor}
use Rattle.graph_updates.specs.EdgeRemoving.{GoesOnBare}
use Rattle.graph_updates.specs.Hands.{HandValue, HasItsNodes, IsHandOf}
use Rattle.graph_updates.specs.Parts.{HasHelped}
use Rattle.graph_updates.proofs.AddingTries.{with_spare}
use Rattle.graph_updates.proofs.EdgeChangingTells.{stale_goes, stale_keeps, stale_last, stale_marked, stale_raised}
use Rattle.graph_updates.proofs.EdgeMarkingTells.{keeps_goes, keeps_hand, keeps_pass}
use Rattle.graph_updates.proofs.EdgeRaisesTell.{few_of_some}
use Rattle.graph_updates.proofs.edge_adding.mark_stale.Goals as goal

pub raise_once-last-requires-clause-limit : goal.raise_once-last-requires-clause-limit
raise_once-last-requires-clause-limit c = subst
    (λ (q : HandValue). made raises q.token.view.number q.token.view.front < most_raises) (sym c.hand.view_is)
    (few_of_some c.args.hand.now.token.view c.args.from c.args.raised.now c.requires.hand.of.layout
    c.requires.hand.of.sound c.requires.raised)

pub returns-clause-hand : goal.returns-clause-hand
returns-clause-hand c =
    let g = c.args.table.now in
    let h = the_view c.hand.inside in
    let t = c.raise_once-last.new.token in
    let u = c.mark-marked.new.token in
    let s = c.args.seen.now in
    let r = c.raise_once-last.result in
    let of : IsHandOf g h = subst (IsHandOf g) (sym c.hand.view_is) c.requires.hand in
    let seen : IsSeenEdge h.token.view c.args.from s.edge s.moment.value.view.front = subst
    (λ (q : HandValue). IsSeenEdge q.token.view c.args.from s.edge s.moment.value.view.front) (sym c.hand.view_is)
    c.requires.seen in
    keeps_hand g h u of c.mark-marked.ensures.table
    (stale_keeps g h t u c.args.from s c.take.result r c.mark-marked.result of c.raise_once-last.ensures.table
    c.mark-marked.ensures.table seen c.raise_once-last.ensures.raised c.mark-marked.ensures.marked)

pub returns-clause-pass : goal.returns-clause-pass
returns-clause-pass c =
    let g = c.args.table.now in
    let h = the_view c.hand.inside in
    let t = c.raise_once-last.new.token in
    let u = c.mark-marked.new.token in
    let s = c.args.seen.now in
    let r = c.raise_once-last.result in
    let of : IsHandOf g h = subst (IsHandOf g) (sym c.hand.view_is) c.requires.hand in
    let seen : IsSeenEdge h.token.view c.args.from s.edge s.moment.value.view.front = subst
    (λ (q : HandValue). IsSeenEdge q.token.view c.args.from s.edge s.moment.value.view.front) (sym c.hand.view_is)
    c.requires.seen in
    keeps_pass g h u of c.mark-marked.ensures.table
    (stale_keeps g h t u c.args.from s c.take.result r c.mark-marked.result of c.raise_once-last.ensures.table
    c.mark-marked.ensures.table seen c.raise_once-last.ensures.raised c.mark-marked.ensures.marked)
    (subst (λ (q : HandValue). HasPass q.token.view) (sym c.hand.view_is) c.requires.pass)

pub returns-clause-goes : goal.returns-clause-goes
returns-clause-goes c =
    let g = c.args.table.now in
    let h = the_view c.hand.inside in
    let t = c.raise_once-last.new.token in
    let u = c.mark-marked.new.token in
    let s = c.args.seen.now in
    let r = c.raise_once-last.result in
    let of : IsHandOf g h = subst (IsHandOf g) (sym c.hand.view_is) c.requires.hand in
    let seen : IsSeenEdge h.token.view c.args.from s.edge s.moment.value.view.front = subst
    (λ (q : HandValue). IsSeenEdge q.token.view c.args.from s.edge s.moment.value.view.front) (sym c.hand.view_is)
    c.requires.seen in
    let over = subst (λ (q : HandValue). vertex_marked q.token.view.front s.edge.target ≡ true) (sym c.hand.view_is)
    c.requires.over in
    subst (λ (q : HandValue). GoesOnBare q (with_spare h u h.spare)) c.hand.view_is
    (stale_goes g h t u c.args.from s c.take.result r c.mark-marked.result of c.raise_once-last.ensures.table
    c.mark-marked.ensures.table seen c.raise_once-last.ensures.raised c.mark-marked.ensures.marked over
    (subst HasItsNodes (sym c.hand.view_is) c.requires.nodes))

pub returns-clause-stays : goal.returns-clause-stays
returns-clause-stays c =
    let g = c.args.table.now in
    let h = the_view c.hand.inside in
    let t = c.raise_once-last.new.token in
    let u = c.mark-marked.new.token in
    let s = c.args.seen.now in
    let r = c.raise_once-last.result in
    let of : IsHandOf g h = subst (IsHandOf g) (sym c.hand.view_is) c.requires.hand in
    let seen : IsSeenEdge h.token.view c.args.from s.edge s.moment.value.view.front = subst
    (λ (q : HandValue). IsSeenEdge q.token.view c.args.from s.edge s.moment.value.view.front) (sym c.hand.view_is)
    c.requires.seen in
    subst (λ (q : HandValue). GoesOn q.token.view u.view) c.hand.view_is
    (keeps_goes g h u of c.mark-marked.ensures.table
    (stale_keeps g h t u c.args.from s c.take.result r c.mark-marked.result of c.raise_once-last.ensures.table
    c.mark-marked.ensures.table seen c.raise_once-last.ensures.raised c.mark-marked.ensures.marked))

pub returns-clause-last : goal.returns-clause-last
returns-clause-last c =
    let g = c.args.table.now in
    let h = the_view c.hand.inside in
    let t = c.raise_once-last.new.token in
    let u = c.mark-marked.new.token in
    let s = c.args.seen.now in
    let r = c.raise_once-last.result in
    let of : IsHandOf g h = subst (IsHandOf g) (sym c.hand.view_is) c.requires.hand in
    let seen : IsSeenEdge h.token.view c.args.from s.edge s.moment.value.view.front = subst
    (λ (q : HandValue). IsSeenEdge q.token.view c.args.from s.edge s.moment.value.view.front) (sym c.hand.view_is)
    c.requires.seen in
    stale_last g h t u c.args.from s c.take.result r c.mark-marked.result of c.raise_once-last.ensures.table
    c.mark-marked.ensures.table seen c.raise_once-last.ensures.raised c.mark-marked.ensures.marked

pub returns-clause-raised : goal.returns-clause-raised
returns-clause-raised c =
    let g = c.args.table.now in
    let h = the_view c.hand.inside in
    let t = c.raise_once-last.new.token in
    let u = c.mark-marked.new.token in
    let s = c.args.seen.now in
    let r = c.raise_once-last.result in
    let of : IsHandOf g h = subst (IsHandOf g) (sym c.hand.view_is) c.requires.hand in
    let seen : IsSeenEdge h.token.view c.args.from s.edge s.moment.value.view.front = subst
    (λ (q : HandValue). IsSeenEdge q.token.view c.args.from s.edge s.moment.value.view.front) (sym c.hand.view_is)
    c.requires.seen in
    λ old helped here. subst
    (λ (l : Option RaisedValue). RaisesFor c.args.from s.edge.key l (Some r) old.token.view u.view)
    c.take.ensures.value
    (stale_raised g h t u c.args.from s c.take.result r c.mark-marked.result of c.raise_once-last.ensures.table
    c.mark-marked.ensures.table seen c.raise_once-last.ensures.raised c.mark-marked.ensures.marked old
    (subst (HasHelped old) (sym c.hand.view_is) helped)
    (subst (λ (q : HandValue). WasEdgeHere c.args.from s.edge.key old.token.view q.token.view s) (sym c.hand.view_is)
    here))

pub returns-clause-marked : goal.returns-clause-marked
returns-clause-marked c =
    let g = c.args.table.now in
    let h = the_view c.hand.inside in
    let t = c.raise_once-last.new.token in
    let u = c.mark-marked.new.token in
    let s = c.args.seen.now in
    let r = c.raise_once-last.result in
    let of : IsHandOf g h = subst (IsHandOf g) (sym c.hand.view_is) c.requires.hand in
    let seen : IsSeenEdge h.token.view c.args.from s.edge s.moment.value.view.front = subst
    (λ (q : HandValue). IsSeenEdge q.token.view c.args.from s.edge s.moment.value.view.front) (sym c.hand.view_is)
    c.requires.seen in
    stale_marked g h t u c.args.from s c.take.result r of c.raise_once-last.ensures.table c.mark-marked.ensures.table
    seen c.raise_once-last.ensures.raised c.mark-marked.result c.mark-marked.ensures.marked
