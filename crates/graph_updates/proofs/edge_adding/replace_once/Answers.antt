use Rattle.std.proofs.Common.{◌≡◌, ◌<◌, None, Option, Some, sym, ap, ◌∙◌, subst, true, false}
use Rattle.packed_link.specs.declared.link.Life.{Life}
use Rattle.core_journal.specs.Event.{raises}
use Rattle.core_kept.specs.Counts.{made, most_raises}
use Rattle.core_rule.specs.Stretches.{HasPass}
use Rattle.core_rule.specs.Views.{GoesOn}
use Rattle.core_stretches.specs.Holdings.{IsHeldFresh}
use Rattle.core_stretches.specs.Moments.{HoldsBetween}
use Rattle.edge_list.specs.EdgeMarks.{RaisedValue}
use Rattle.edge_list.specs.EdgePositions.{IsSeenEdge, IsUnmarkedEdge}
use Rattle.edge_list.specs.declared.replacing.EdgeReplaced.TheVariants.{Done, Lost}
use Rattle.graph_updates.specs.contracts.hand.Hand.{the_view}
use Rattle.graph_updates.specs.EdgeAdding.{IsUnraised}
use Rattle.graph_updates.specs.EdgeChanging.{MatchReplacedOnce, holding}
use Rattle.graph_updates.specs.EdgeRaises.{RaisesFor}
use Rattle.graph_updates.specs.Hands.{HandValue, HasItsNodes, IsHandOf}
use Rattle.graph_updates.proofs.AddingTries.{with_spare}
use Rattle.graph_updates.proofs.EdgeRaisesTell.{few_of_some}
use Rattle.graph_updates.proofs.EdgeReplacingTells.{fresh_there, replaced_done, replaced_hand, replaced_last}
use Rattle.graph_updates.proofs.EdgeReplacingTells.{replaced_lost, replaced_pass, replaced_raised, replaced_stays}
use Rattle.graph_updates.proofs.EdgeReplacingTells.{still_held}
use Rattle.graph_updates.proofs.edge_adding.replace_once.Goals as goal

pub raise_once-last-requires-clause-limit : goal.raise_once-last-requires-clause-limit
raise_once-last-requires-clause-limit c = subst
    (λ (q : HandValue). made raises q.token.view.number q.token.view.front < most_raises) (sym c.hand.view_is)
    (few_of_some c.args.hand.now.token.view c.args.from c.args.raised.now c.requires.hand.of.layout
    c.requires.hand.of.sound c.requires.raised)

pub replace-replaced-requires-clause-fresh : goal.replace-replaced-requires-clause-fresh
replace-replaced-requires-clause-fresh c =
    let g = c.args.table.now in
    let h = the_view c.hand.inside in
    let t = c.raise_once-last.new.token in
    let s = c.args.seen.now in
    let r = c.raise_once-last.result in
    let x = c.args.fresh in
    let of : IsHandOf g h = subst (IsHandOf g) (sym c.hand.view_is) c.requires.hand in
    let held : IsHeldFresh h.token.view x = subst (λ (q : HandValue). IsHeldFresh q.token.view x) (sym c.hand.view_is)
    c.requires.fresh in
    let seen : IsSeenEdge h.token.view c.args.from s.edge s.moment.value.view.front = subst
    (λ (q : HandValue). IsSeenEdge q.token.view c.args.from s.edge s.moment.value.view.front) (sym c.hand.view_is)
    c.requires.seen in
    fresh_there g h t t c.args.from s x c.args.weight c.take.result r of c.raise_once-last.ensures.table held seen
    c.raise_once-last.ensures.raised

pub returns-in-Done-clause-hand : goal.returns-in-Done-clause-hand
returns-in-Done-clause-hand c =
    let g = c.args.table.now in
    let h = the_view c.hand.inside in
    let t = c.raise_once-last.new.token in
    let u = c.replace-replaced.new.token in
    let s = c.args.seen.now in
    let r = c.raise_once-last.result in
    let x = c.args.fresh in
    let of : IsHandOf g h = subst (IsHandOf g) (sym c.hand.view_is) c.requires.hand in
    let held : IsHeldFresh h.token.view x = subst (λ (q : HandValue). IsHeldFresh q.token.view x) (sym c.hand.view_is)
    c.requires.fresh in
    let seen : IsSeenEdge h.token.view c.args.from s.edge s.moment.value.view.front = subst
    (λ (q : HandValue). IsSeenEdge q.token.view c.args.from s.edge s.moment.value.view.front) (sym c.hand.view_is)
    c.requires.seen in
    let k = c.in-Done.ensures.replaced in
    let bare : h.spare ≡ None = ap (λ (q : HandValue). q.spare) c.hand.view_is ∙ c.requires.spare in
    subst (λ (o : Option Life). IsHandOf g (with_spare h u o)) (sym bare)
    (replaced_hand g h t u c.args.from s x c.args.weight c.take.result r of c.raise_once-last.ensures.table held seen
    c.raise_once-last.ensures.raised c.replace-replaced.ensures.table (Done c.in-Done.field-0) k None tt)

pub returns-in-Done-clause-pass : goal.returns-in-Done-clause-pass
returns-in-Done-clause-pass c =
    let g = c.args.table.now in
    let h = the_view c.hand.inside in
    let t = c.raise_once-last.new.token in
    let u = c.replace-replaced.new.token in
    let s = c.args.seen.now in
    let r = c.raise_once-last.result in
    let x = c.args.fresh in
    let of : IsHandOf g h = subst (IsHandOf g) (sym c.hand.view_is) c.requires.hand in
    let held : IsHeldFresh h.token.view x = subst (λ (q : HandValue). IsHeldFresh q.token.view x) (sym c.hand.view_is)
    c.requires.fresh in
    let seen : IsSeenEdge h.token.view c.args.from s.edge s.moment.value.view.front = subst
    (λ (q : HandValue). IsSeenEdge q.token.view c.args.from s.edge s.moment.value.view.front) (sym c.hand.view_is)
    c.requires.seen in
    let k = c.in-Done.ensures.replaced in
    replaced_pass g h t u c.args.from s x c.args.weight c.take.result r of c.raise_once-last.ensures.table held seen
    c.raise_once-last.ensures.raised c.replace-replaced.ensures.table (Done c.in-Done.field-0) k
    (subst (λ (q : HandValue). HasPass q.token.view) (sym c.hand.view_is) c.requires.pass)

pub returns-in-Done-clause-stays : goal.returns-in-Done-clause-stays
returns-in-Done-clause-stays c =
    let g = c.args.table.now in
    let h = the_view c.hand.inside in
    let t = c.raise_once-last.new.token in
    let u = c.replace-replaced.new.token in
    let s = c.args.seen.now in
    let r = c.raise_once-last.result in
    let x = c.args.fresh in
    let of : IsHandOf g h = subst (IsHandOf g) (sym c.hand.view_is) c.requires.hand in
    let held : IsHeldFresh h.token.view x = subst (λ (q : HandValue). IsHeldFresh q.token.view x) (sym c.hand.view_is)
    c.requires.fresh in
    let seen : IsSeenEdge h.token.view c.args.from s.edge s.moment.value.view.front = subst
    (λ (q : HandValue). IsSeenEdge q.token.view c.args.from s.edge s.moment.value.view.front) (sym c.hand.view_is)
    c.requires.seen in
    let k = c.in-Done.ensures.replaced in
    subst (λ (q : HandValue). GoesOn q.token.view u.view) c.hand.view_is
    (replaced_stays g h t u c.args.from s x c.args.weight c.take.result r of c.raise_once-last.ensures.table held seen
    c.raise_once-last.ensures.raised c.replace-replaced.ensures.table (Done c.in-Done.field-0) k)

pub returns-in-Done-clause-last : goal.returns-in-Done-clause-last
returns-in-Done-clause-last c =
    let g = c.args.table.now in
    let h = the_view c.hand.inside in
    let t = c.raise_once-last.new.token in
    let u = c.replace-replaced.new.token in
    let s = c.args.seen.now in
    let r = c.raise_once-last.result in
    let x = c.args.fresh in
    let of : IsHandOf g h = subst (IsHandOf g) (sym c.hand.view_is) c.requires.hand in
    let held : IsHeldFresh h.token.view x = subst (λ (q : HandValue). IsHeldFresh q.token.view x) (sym c.hand.view_is)
    c.requires.fresh in
    let seen : IsSeenEdge h.token.view c.args.from s.edge s.moment.value.view.front = subst
    (λ (q : HandValue). IsSeenEdge q.token.view c.args.from s.edge s.moment.value.view.front) (sym c.hand.view_is)
    c.requires.seen in
    let k = c.in-Done.ensures.replaced in
    replaced_last g h t u c.args.from s x c.args.weight c.take.result r of c.raise_once-last.ensures.table held seen
    c.raise_once-last.ensures.raised c.replace-replaced.ensures.table (Done c.in-Done.field-0) k

pub returns-in-Done-clause-raised : goal.returns-in-Done-clause-raised
returns-in-Done-clause-raised c =
    let g = c.args.table.now in
    let h = the_view c.hand.inside in
    let t = c.raise_once-last.new.token in
    let u = c.replace-replaced.new.token in
    let s = c.args.seen.now in
    let r = c.raise_once-last.result in
    let x = c.args.fresh in
    let of : IsHandOf g h = subst (IsHandOf g) (sym c.hand.view_is) c.requires.hand in
    let held : IsHeldFresh h.token.view x = subst (λ (q : HandValue). IsHeldFresh q.token.view x) (sym c.hand.view_is)
    c.requires.fresh in
    let seen : IsSeenEdge h.token.view c.args.from s.edge s.moment.value.view.front = subst
    (λ (q : HandValue). IsSeenEdge q.token.view c.args.from s.edge s.moment.value.view.front) (sym c.hand.view_is)
    c.requires.seen in
    let k = c.in-Done.ensures.replaced in
    λ v before there. subst (λ (l : Option RaisedValue). RaisesFor c.args.from s.edge.key l (Some r) v u.view)
    c.take.ensures.value
    (replaced_raised g h t u c.args.from s x c.args.weight c.take.result r of c.raise_once-last.ensures.table held seen
    c.raise_once-last.ensures.raised c.replace-replaced.ensures.table (Done c.in-Done.field-0) k v
    (subst (λ (q : HandValue). IsUnraised v q.token.view) (sym c.hand.view_is) before)
    (subst (λ (q : HandValue). HoldsBetween v.front q.token.view.front (IsUnmarkedEdge c.args.from s.edge)
    s.moment.value.view.front) (sym c.hand.view_is) there))

pub returns-in-Done-clause-replaced : goal.returns-in-Done-clause-replaced
returns-in-Done-clause-replaced c =
    let g = c.args.table.now in
    let h = the_view c.hand.inside in
    let t = c.raise_once-last.new.token in
    let u = c.replace-replaced.new.token in
    let s = c.args.seen.now in
    let r = c.raise_once-last.result in
    let x = c.args.fresh in
    let of : IsHandOf g h = subst (IsHandOf g) (sym c.hand.view_is) c.requires.hand in
    let held : IsHeldFresh h.token.view x = subst (λ (q : HandValue). IsHeldFresh q.token.view x) (sym c.hand.view_is)
    c.requires.fresh in
    let seen : IsSeenEdge h.token.view c.args.from s.edge s.moment.value.view.front = subst
    (λ (q : HandValue). IsSeenEdge q.token.view c.args.from s.edge s.moment.value.view.front) (sym c.hand.view_is)
    c.requires.seen in
    let k = c.in-Done.ensures.replaced in
    let bare : h.spare ≡ None = ap (λ (q : HandValue). q.spare) c.hand.view_is ∙ c.requires.spare in
    subst (λ (q : HandValue). MatchReplacedOnce true c.args.from s c.args.weight (holding q x) (with_spare h u h.spare))
    c.hand.view_is
    (subst (λ (o : Option Life). MatchReplacedOnce true c.args.from s c.args.weight (holding h x) (with_spare h u o))
    (sym bare)
    (replaced_done g h t u c.args.from s x c.args.weight c.take.result r of c.raise_once-last.ensures.table held seen
    c.raise_once-last.ensures.raised c.replace-replaced.ensures.table
    (subst (λ (q : HandValue). HasItsNodes (holding q x)) (sym c.hand.view_is) c.requires.nodes) c.in-Done.field-0 k))

pub returns-in-Lost-clause-hand : goal.returns-in-Lost-clause-hand
returns-in-Lost-clause-hand c =
    let g = c.args.table.now in
    let h = the_view c.hand.inside in
    let t = c.raise_once-last.new.token in
    let u = c.replace-replaced.new.token in
    let s = c.args.seen.now in
    let r = c.raise_once-last.result in
    let x = c.args.fresh in
    let of : IsHandOf g h = subst (IsHandOf g) (sym c.hand.view_is) c.requires.hand in
    let held : IsHeldFresh h.token.view x = subst (λ (q : HandValue). IsHeldFresh q.token.view x) (sym c.hand.view_is)
    c.requires.fresh in
    let seen : IsSeenEdge h.token.view c.args.from s.edge s.moment.value.view.front = subst
    (λ (q : HandValue). IsSeenEdge q.token.view c.args.from s.edge s.moment.value.view.front) (sym c.hand.view_is)
    c.requires.seen in
    let k = c.in-Lost.ensures.replaced in
    subst (λ (y : Life). IsHandOf g (with_spare h u (Some y))) (sym k.0)
    (replaced_hand g h t u c.args.from s x c.args.weight c.take.result r of c.raise_once-last.ensures.table held seen
    c.raise_once-last.ensures.raised c.replace-replaced.ensures.table (Lost c.in-Lost.fresh) k (Some x)
    (still_held g h t u c.args.from s x c.args.weight c.take.result r of c.raise_once-last.ensures.table held seen
    c.raise_once-last.ensures.raised c.replace-replaced.ensures.table
    (subst (λ (q : HandValue). HasItsNodes (holding q x)) (sym c.hand.view_is) c.requires.nodes) c.in-Lost.fresh k))

pub returns-in-Lost-clause-pass : goal.returns-in-Lost-clause-pass
returns-in-Lost-clause-pass c =
    let g = c.args.table.now in
    let h = the_view c.hand.inside in
    let t = c.raise_once-last.new.token in
    let u = c.replace-replaced.new.token in
    let s = c.args.seen.now in
    let r = c.raise_once-last.result in
    let x = c.args.fresh in
    let of : IsHandOf g h = subst (IsHandOf g) (sym c.hand.view_is) c.requires.hand in
    let held : IsHeldFresh h.token.view x = subst (λ (q : HandValue). IsHeldFresh q.token.view x) (sym c.hand.view_is)
    c.requires.fresh in
    let seen : IsSeenEdge h.token.view c.args.from s.edge s.moment.value.view.front = subst
    (λ (q : HandValue). IsSeenEdge q.token.view c.args.from s.edge s.moment.value.view.front) (sym c.hand.view_is)
    c.requires.seen in
    let k = c.in-Lost.ensures.replaced in
    replaced_pass g h t u c.args.from s x c.args.weight c.take.result r of c.raise_once-last.ensures.table held seen
    c.raise_once-last.ensures.raised c.replace-replaced.ensures.table (Lost c.in-Lost.fresh) k
    (subst (λ (q : HandValue). HasPass q.token.view) (sym c.hand.view_is) c.requires.pass)

pub returns-in-Lost-clause-stays : goal.returns-in-Lost-clause-stays
returns-in-Lost-clause-stays c =
    let g = c.args.table.now in
    let h = the_view c.hand.inside in
    let t = c.raise_once-last.new.token in
    let u = c.replace-replaced.new.token in
    let s = c.args.seen.now in
    let r = c.raise_once-last.result in
    let x = c.args.fresh in
    let of : IsHandOf g h = subst (IsHandOf g) (sym c.hand.view_is) c.requires.hand in
    let held : IsHeldFresh h.token.view x = subst (λ (q : HandValue). IsHeldFresh q.token.view x) (sym c.hand.view_is)
    c.requires.fresh in
    let seen : IsSeenEdge h.token.view c.args.from s.edge s.moment.value.view.front = subst
    (λ (q : HandValue). IsSeenEdge q.token.view c.args.from s.edge s.moment.value.view.front) (sym c.hand.view_is)
    c.requires.seen in
    let k = c.in-Lost.ensures.replaced in
    subst (λ (q : HandValue). GoesOn q.token.view u.view) c.hand.view_is
    (replaced_stays g h t u c.args.from s x c.args.weight c.take.result r of c.raise_once-last.ensures.table held seen
    c.raise_once-last.ensures.raised c.replace-replaced.ensures.table (Lost c.in-Lost.fresh) k)

pub returns-in-Lost-clause-last : goal.returns-in-Lost-clause-last
returns-in-Lost-clause-last c =
    let g = c.args.table.now in
    let h = the_view c.hand.inside in
    let t = c.raise_once-last.new.token in
    let u = c.replace-replaced.new.token in
    let s = c.args.seen.now in
    let r = c.raise_once-last.result in
    let x = c.args.fresh in
    let of : IsHandOf g h = subst (IsHandOf g) (sym c.hand.view_is) c.requires.hand in
    let held : IsHeldFresh h.token.view x = subst (λ (q : HandValue). IsHeldFresh q.token.view x) (sym c.hand.view_is)
    c.requires.fresh in
    let seen : IsSeenEdge h.token.view c.args.from s.edge s.moment.value.view.front = subst
    (λ (q : HandValue). IsSeenEdge q.token.view c.args.from s.edge s.moment.value.view.front) (sym c.hand.view_is)
    c.requires.seen in
    let k = c.in-Lost.ensures.replaced in
    replaced_last g h t u c.args.from s x c.args.weight c.take.result r of c.raise_once-last.ensures.table held seen
    c.raise_once-last.ensures.raised c.replace-replaced.ensures.table (Lost c.in-Lost.fresh) k

pub returns-in-Lost-clause-raised : goal.returns-in-Lost-clause-raised
returns-in-Lost-clause-raised c =
    let g = c.args.table.now in
    let h = the_view c.hand.inside in
    let t = c.raise_once-last.new.token in
    let u = c.replace-replaced.new.token in
    let s = c.args.seen.now in
    let r = c.raise_once-last.result in
    let x = c.args.fresh in
    let of : IsHandOf g h = subst (IsHandOf g) (sym c.hand.view_is) c.requires.hand in
    let held : IsHeldFresh h.token.view x = subst (λ (q : HandValue). IsHeldFresh q.token.view x) (sym c.hand.view_is)
    c.requires.fresh in
    let seen : IsSeenEdge h.token.view c.args.from s.edge s.moment.value.view.front = subst
    (λ (q : HandValue). IsSeenEdge q.token.view c.args.from s.edge s.moment.value.view.front) (sym c.hand.view_is)
    c.requires.seen in
    let k = c.in-Lost.ensures.replaced in
    λ v before there. subst (λ (l : Option RaisedValue). RaisesFor c.args.from s.edge.key l (Some r) v u.view)
    c.take.ensures.value
    (replaced_raised g h t u c.args.from s x c.args.weight c.take.result r of c.raise_once-last.ensures.table held seen
    c.raise_once-last.ensures.raised c.replace-replaced.ensures.table (Lost c.in-Lost.fresh) k v
    (subst (λ (q : HandValue). IsUnraised v q.token.view) (sym c.hand.view_is) before)
    (subst (λ (q : HandValue). HoldsBetween v.front q.token.view.front (IsUnmarkedEdge c.args.from s.edge)
    s.moment.value.view.front) (sym c.hand.view_is) there))

pub returns-in-Lost-clause-replaced : goal.returns-in-Lost-clause-replaced
returns-in-Lost-clause-replaced c =
    let g = c.args.table.now in
    let h = the_view c.hand.inside in
    let t = c.raise_once-last.new.token in
    let u = c.replace-replaced.new.token in
    let s = c.args.seen.now in
    let r = c.raise_once-last.result in
    let x = c.args.fresh in
    let of : IsHandOf g h = subst (IsHandOf g) (sym c.hand.view_is) c.requires.hand in
    let held : IsHeldFresh h.token.view x = subst (λ (q : HandValue). IsHeldFresh q.token.view x) (sym c.hand.view_is)
    c.requires.fresh in
    let seen : IsSeenEdge h.token.view c.args.from s.edge s.moment.value.view.front = subst
    (λ (q : HandValue). IsSeenEdge q.token.view c.args.from s.edge s.moment.value.view.front) (sym c.hand.view_is)
    c.requires.seen in
    let k = c.in-Lost.ensures.replaced in
    subst (λ (q : HandValue). MatchReplacedOnce false c.args.from s c.args.weight (holding q x)
    (with_spare h u (Some c.in-Lost.fresh))) c.hand.view_is
    (subst (λ (y : Life). MatchReplacedOnce false c.args.from s c.args.weight (holding h x) (with_spare h u (Some y)))
    (sym k.0)
    (replaced_lost g h t u c.args.from s x c.args.weight c.take.result r of c.raise_once-last.ensures.table held seen
    c.raise_once-last.ensures.raised c.replace-replaced.ensures.table
    (subst (λ (q : HandValue). HasItsNodes (holding q x)) (sym c.hand.view_is) c.requires.nodes) c.in-Lost.fresh k))
