use Rattle.std.proofs.Common.{◌≡◌, ℕ, None, Option, Some, true, refl, ap, ◌∙◌, sym, subst}
use Rattle.graph_kinds.specs.declared.outcome.Outcome.TheVariants.{Added}
use Rattle.packed_link.specs.declared.link.Life.{Life}
use Rattle.core_journal.specs.Life.{key_of}
use Rattle.core_rule.specs.Fronts.{MetVertex}
use Rattle.core_rule.specs.Stretches.{HasPass}
use Rattle.graph_updates.specs.EdgeAdding.{IsUnraised, MatchPlaced}
use Rattle.graph_updates.specs.EdgeChanging.{holding}
use Rattle.graph_updates.specs.Hands.{HandValue, HasItsNodes, IsHandOf}
use Rattle.graph_updates.specs.Parts.{Fell, GoesOnBy}
use Rattle.graph_updates.specs.contracts.hand.Hand.{the_view}
use Rattle.graph_updates.specs.declared.edge_adding.AddTurn.TheVariants as turn
use Rattle.graph_updates.proofs.AddingTries.{with_spare}
use Rattle.graph_updates.proofs.EdgeLinkingTells.{done_hand, done_pass, done_placed, done_unraised, missed_hand}
use Rattle.graph_updates.proofs.EdgeLinkingTells.{missed_pass, missed_placed, missed_unraised, put_met, put_numbered}
use Rattle.graph_updates.proofs.edge_linking.put_pair.Goals as goal

pub conclude-requires-clause-number : goal.conclude-requires-clause-number
conclude-requires-clause-number c =
    let h = the_view c.hand.inside in
    let g = c.args.table.now in
    let x = c.args.fresh in
    let p = c.args.gap in
    let t = c.put_edge.new.token in
    let of : IsHandOf g (holding h x) = subst (λ (k : HandValue). IsHandOf g (holding k x)) (sym c.hand.view_is)
    c.requires.hand in
    let q = c.in-Done.ensures.put in
    let at = c.in-Done.ensures.table in
    put_numbered g h x t p c.args.ends.to c.args.weight of at q

pub conclude-requires-clause-from : goal.conclude-requires-clause-from
conclude-requires-clause-from c =
    let h = the_view c.hand.inside in
    let g = c.args.table.now in
    let x = c.args.fresh in
    let p = c.args.gap in
    let t = c.put_edge.new.token in
    let of : IsHandOf g (holding h x) = subst (λ (k : HandValue). IsHandOf g (holding k x)) (sym c.hand.view_is)
    c.requires.hand in
    let q = c.in-Done.ensures.put in
    let at = c.in-Done.ensures.table in
    put_met g h x t p c.args.ends.to c.args.weight of at q c.args.ends.from
    (subst (λ (k : HandValue). MetVertex k.token.view c.args.ends.from) (sym c.hand.view_is) c.requires.from)

pub conclude-requires-clause-to : goal.conclude-requires-clause-to
conclude-requires-clause-to c =
    let h = the_view c.hand.inside in
    let g = c.args.table.now in
    let x = c.args.fresh in
    let p = c.args.gap in
    let t = c.put_edge.new.token in
    let of : IsHandOf g (holding h x) = subst (λ (k : HandValue). IsHandOf g (holding k x)) (sym c.hand.view_is)
    c.requires.hand in
    let q = c.in-Done.ensures.put in
    let at = c.in-Done.ensures.table in
    put_met g h x t p c.args.ends.to c.args.weight of at q c.args.ends.to
    (subst (λ (k : HandValue). MetVertex k.token.view c.args.ends.to) (sym c.hand.view_is) c.requires.to)

pub returns-in-Done-clause-hand : goal.returns-in-Done-clause-hand
returns-in-Done-clause-hand c =
    let h = the_view c.hand.inside in
    let g = c.args.table.now in
    let x = c.args.fresh in
    let p = c.args.gap in
    let t = c.put_edge.new.token in
    let of : IsHandOf g (holding h x) = subst (λ (k : HandValue). IsHandOf g (holding k x)) (sym c.hand.view_is)
    c.requires.hand in
    let q = c.in-Done.ensures.put in
    let at = c.in-Done.ensures.table in
    let u = c.conclude.new.token in
    let bare : h.spare ≡ None = ap (λ (k : HandValue). k.spare) c.hand.view_is ∙ c.requires.bare in
    subst (λ (s : Option Life). IsHandOf g (with_spare h u s)) (sym bare)
    (done_hand g h x t p c.args.ends.to c.args.weight of at q u c.conclude.ensures.table c.conclude.ensures.makes)

pub returns-in-Done-clause-pass : goal.returns-in-Done-clause-pass
returns-in-Done-clause-pass c =
    let h = the_view c.hand.inside in
    let g = c.args.table.now in
    let x = c.args.fresh in
    let p = c.args.gap in
    let t = c.put_edge.new.token in
    let of : IsHandOf g (holding h x) = subst (λ (k : HandValue). IsHandOf g (holding k x)) (sym c.hand.view_is)
    c.requires.hand in
    let q = c.in-Done.ensures.put in
    let at = c.in-Done.ensures.table in
    done_pass g h x t p c.args.ends.to c.args.weight of at q c.conclude.new.token c.conclude.ensures.table
    c.conclude.ensures.makes (subst (λ (k : HandValue). HasPass k.token.view) (sym c.hand.view_is) c.requires.pass)

pub returns-in-Done-clause-unraised : goal.returns-in-Done-clause-unraised
returns-in-Done-clause-unraised c =
    let h = the_view c.hand.inside in
    let g = c.args.table.now in
    let x = c.args.fresh in
    let p = c.args.gap in
    let t = c.put_edge.new.token in
    let of : IsHandOf g (holding h x) = subst (λ (k : HandValue). IsHandOf g (holding k x)) (sym c.hand.view_is)
    c.requires.hand in
    let q = c.in-Done.ensures.put in
    let at = c.in-Done.ensures.table in
    let u = c.conclude.new.token in
    subst (λ (k : HandValue). IsUnraised k.token.view u.view) c.hand.view_is
    (done_unraised g h x t p c.args.ends.to c.args.weight of at q u c.conclude.ensures.table c.conclude.ensures.makes)

pub returns-in-Done-clause-placed : goal.returns-in-Done-clause-placed
returns-in-Done-clause-placed c = λ a from_key.
    let h = the_view c.hand.inside in
    let g = c.args.table.now in
    let x = c.args.fresh in
    let p = c.args.gap in
    let t = c.put_edge.new.token in
    let of : IsHandOf g (holding h x) = subst (λ (k : HandValue). IsHandOf g (holding k x)) (sym c.hand.view_is)
    c.requires.hand in
    let q = c.in-Done.ensures.put in
    let at = c.in-Done.ensures.table in
    let u = c.conclude.new.token in
    let bare : h.spare ≡ None = ap (λ (k : HandValue). k.spare) c.hand.view_is ∙ c.requires.bare in
    let nodes : HasItsNodes (holding h x) = subst (λ (k : HandValue). HasItsNodes (holding k x)) (sym c.hand.view_is)
    c.requires.nodes in
    let full = turn.FullAtGap p in
    let e = c.args.ends in
    let placed = done_placed g h x t p c.args.ends.to c.args.weight of at q u c.conclude.ensures.table
    c.conclude.ensures.makes e a full nodes
    c.requires.source refl
    (subst (λ (k : HandValue). key_of k.token.view.front e.from ≡ Some a) (sym c.hand.view_is) from_key)
    (subst (λ (k : HandValue). key_of k.token.view.front e.to ≡ Some p.key) (sym c.hand.view_is)
    (c.requires.key ∙ ap Some (sym c.requires.gap_key)))
    c.conclude.result c.conclude.ensures.concluded in
    let told = subst (λ (k : HandValue). MatchPlaced c.conclude.result Added full e a p.key c.args.weight p.moment
    (holding k x) (with_spare h u None)) c.hand.view_is placed in
    subst (λ (b : ℕ). MatchPlaced c.conclude.result Added full e a b c.args.weight p.moment
    (holding c.args.hand.now x) (with_spare h u h.spare)) c.requires.gap_key
    (subst (λ (s : Option Life). MatchPlaced c.conclude.result Added full e a p.key c.args.weight p.moment
    (holding c.args.hand.now x) (with_spare h u s)) (sym bare) told)

pub returns-in-Lost-clause-hand : goal.returns-in-Lost-clause-hand
returns-in-Lost-clause-hand c =
    let h = the_view c.hand.inside in
    let g = c.args.table.now in
    let x = c.args.fresh in
    let p = c.args.gap in
    let t = c.put_edge.new.token in
    let of : IsHandOf g (holding h x) = subst (λ (k : HandValue). IsHandOf g (holding k x)) (sym c.hand.view_is)
    c.requires.hand in
    let at = c.in-Lost.ensures.table in
    let m = c.in-Lost.ensures.put in
    subst (λ (y : Life). IsHandOf g (with_spare h t (Some y))) (sym m.0) (missed_hand g h x t p.moment of at m.1)

pub returns-in-Lost-clause-pass : goal.returns-in-Lost-clause-pass
returns-in-Lost-clause-pass c =
    let h = the_view c.hand.inside in
    let g = c.args.table.now in
    let x = c.args.fresh in
    let p = c.args.gap in
    let t = c.put_edge.new.token in
    let of : IsHandOf g (holding h x) = subst (λ (k : HandValue). IsHandOf g (holding k x)) (sym c.hand.view_is)
    c.requires.hand in
    let at = c.in-Lost.ensures.table in
    let m = c.in-Lost.ensures.put in
    missed_pass g h x t p.moment of at m.1
    (subst (λ (k : HandValue). HasPass k.token.view) (sym c.hand.view_is) c.requires.pass)

pub returns-in-Lost-clause-unraised : goal.returns-in-Lost-clause-unraised
returns-in-Lost-clause-unraised c =
    let h = the_view c.hand.inside in
    let g = c.args.table.now in
    let x = c.args.fresh in
    let p = c.args.gap in
    let t = c.put_edge.new.token in
    let of : IsHandOf g (holding h x) = subst (λ (k : HandValue). IsHandOf g (holding k x)) (sym c.hand.view_is)
    c.requires.hand in
    let at = c.in-Lost.ensures.table in
    let m = c.in-Lost.ensures.put in
    subst (λ (k : HandValue). IsUnraised k.token.view t.view) c.hand.view_is
    (missed_unraised g h x t p.moment of at m.1)

pub returns-in-Lost-clause-placed : goal.returns-in-Lost-clause-placed
returns-in-Lost-clause-placed c = λ a from_key.
    let h = the_view c.hand.inside in
    let g = c.args.table.now in
    let x = c.args.fresh in
    let p = c.args.gap in
    let t = c.put_edge.new.token in
    let of : IsHandOf g (holding h x) = subst (λ (k : HandValue). IsHandOf g (holding k x)) (sym c.hand.view_is)
    c.requires.hand in
    let at = c.in-Lost.ensures.table in
    let m = c.in-Lost.ensures.put in
    let nodes : HasItsNodes (holding h x) = subst (λ (k : HandValue). HasItsNodes (holding k x)) (sym c.hand.view_is)
    c.requires.nodes in
    let told = missed_placed g h x t p.moment of at m.1 nodes in
    subst (λ (k : HandValue). GoesOnBy true (holding k x) (with_spare h t (Some c.in-Lost.fresh))
    × Fell 1 t.view.number p.moment t.view.front) c.hand.view_is
    (subst (λ (y : Life). GoesOnBy true (holding h x) (with_spare h t (Some y))
    × Fell 1 t.view.number p.moment t.view.front) (sym m.0) told)
