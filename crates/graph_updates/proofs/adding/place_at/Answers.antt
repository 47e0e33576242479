use Rattle.std.proofs.Common.{◌≡◌, ◌+◌, ◌++◌, ◌∷◌, [], None, Option, ap, arith, sym, subst, ◌∙◌}
use Rattle.core_journal.specs.Event.{pops}
use Rattle.core_kept.specs.Counts.{made}
use Rattle.graph_updates.specs.Parts.{may_take}
use Rattle.packed_link.specs.declared.link.Life.{Life}
use Rattle.graph_updates.specs.contracts.hand.Hand.{the_view}
use Rattle.graph_updates.specs.Hands.{HandValue, HasItsNodes, HoldsNoOther, HoldsSpare, IsHandOf}
use Rattle.core_rule.specs.Stretches.{HasPass}
use Rattle.graph_updates.proofs.AddingTries.{calm_hand, calm_nodes, calm_pass, placed_calm, placed_makes, placed_stays}
use Rattle.graph_updates.proofs.AddingTries.{readies_calm, readies_stays, still_none}
use Rattle.graph_updates.proofs.adding.place_at.Goals as goal

pub returns-in-Linked-clause-hand : goal.returns-in-Linked-clause-hand
returns-in-Linked-clause-hand c =
    let h = the_view c.hand.inside in
    let g = c.args.table.now in
    let of : IsHandOf g h = subst (IsHandOf g) (sym c.hand.view_is) c.requires.hand in
    let n : HasItsNodes h = subst HasItsNodes (sym c.hand.view_is) c.requires.nodes in
    let opened : HasPass h.token.view = subst (λ (k : HandValue). HasPass k.token.view) (sym c.hand.view_is)
    c.requires.pass in
    let t = c.place.new.token in
    let s = c.take-spare.result in
    let p = c.in-Linked.ensures.placed in
    let own = p.first.own ++ p.event ∷ [] in
    let m = c.in-Linked.moment.value in
    let makes = placed_makes c.args.gap.key s h.token.view t.view m p in
    let calm = placed_calm c.args.gap.key s h.token.view t.view m p in
    let after = sym c.take-spare.ensures.after in
    calm_hand g h t own of makes calm c.in-Linked.ensures.table c.take-spare.new.self
    (subst (λ (o : Option Life). HoldsSpare o t.view) after tt)

pub returns-in-Linked-clause-pass : goal.returns-in-Linked-clause-pass
returns-in-Linked-clause-pass c =
    let h = the_view c.hand.inside in
    let g = c.args.table.now in
    let of : IsHandOf g h = subst (IsHandOf g) (sym c.hand.view_is) c.requires.hand in
    let n : HasItsNodes h = subst HasItsNodes (sym c.hand.view_is) c.requires.nodes in
    let opened : HasPass h.token.view = subst (λ (k : HandValue). HasPass k.token.view) (sym c.hand.view_is)
    c.requires.pass in
    let t = c.place.new.token in
    let s = c.take-spare.result in
    let p = c.in-Linked.ensures.placed in
    let own = p.first.own ++ p.event ∷ [] in
    let m = c.in-Linked.moment.value in
    let makes = placed_makes c.args.gap.key s h.token.view t.view m p in
    let calm = placed_calm c.args.gap.key s h.token.view t.view m p in
    let after = sym c.take-spare.ensures.after in
    calm_pass g h t.view own of makes calm (placed_stays c.args.gap.key s h.token.view t.view m p) opened

pub returns-in-Linked-clause-nodes : goal.returns-in-Linked-clause-nodes
returns-in-Linked-clause-nodes c =
    let h = the_view c.hand.inside in
    let g = c.args.table.now in
    let of : IsHandOf g h = subst (IsHandOf g) (sym c.hand.view_is) c.requires.hand in
    let n : HasItsNodes h = subst HasItsNodes (sym c.hand.view_is) c.requires.nodes in
    let opened : HasPass h.token.view = subst (λ (k : HandValue). HasPass k.token.view) (sym c.hand.view_is)
    c.requires.pass in
    let t = c.place.new.token in
    let s = c.take-spare.result in
    let p = c.in-Linked.ensures.placed in
    let own = p.first.own ++ p.event ∷ [] in
    let m = c.in-Linked.moment.value in
    let makes = placed_makes c.args.gap.key s h.token.view t.view m p in
    let calm = placed_calm c.args.gap.key s h.token.view t.view m p in
    let after = sym c.take-spare.ensures.after in
    calm_nodes g h t own of makes calm c.in-Linked.ensures.table c.take-spare.new.self n
    (subst (λ (o : Option Life). HoldsNoOther o t.view) after p.none)

pub returns-in-Full-clause-hand : goal.returns-in-Full-clause-hand
returns-in-Full-clause-hand c =
    let h = the_view c.hand.inside in
    let g = c.args.table.now in
    let of : IsHandOf g h = subst (IsHandOf g) (sym c.hand.view_is) c.requires.hand in
    let n : HasItsNodes h = subst HasItsNodes (sym c.hand.view_is) c.requires.nodes in
    let opened : HasPass h.token.view = subst (λ (k : HandValue). HasPass k.token.view) (sym c.hand.view_is)
    c.requires.pass in
    let t = c.place.new.token in
    let s = c.take-spare.result in
    let p = c.in-Full.ensures.placed in
    let makes = p.1.1.makes in
    let bare : h.spare ≡ None = sym c.take-spare.ensures.value ∙ p.1.0 in
    let after = sym c.take-spare.ensures.after in
    calm_hand g h t [] of makes tt c.in-Full.ensures.table c.take-spare.new.self
    (subst (λ (o : Option Life). HoldsSpare o t.view) after tt)

pub returns-in-Full-clause-pass : goal.returns-in-Full-clause-pass
returns-in-Full-clause-pass c =
    let h = the_view c.hand.inside in
    let g = c.args.table.now in
    let of : IsHandOf g h = subst (IsHandOf g) (sym c.hand.view_is) c.requires.hand in
    let n : HasItsNodes h = subst HasItsNodes (sym c.hand.view_is) c.requires.nodes in
    let opened : HasPass h.token.view = subst (λ (k : HandValue). HasPass k.token.view) (sym c.hand.view_is)
    c.requires.pass in
    let t = c.place.new.token in
    let s = c.take-spare.result in
    let p = c.in-Full.ensures.placed in
    let makes = p.1.1.makes in
    let bare : h.spare ≡ None = sym c.take-spare.ensures.value ∙ p.1.0 in
    let after = sym c.take-spare.ensures.after in
    calm_pass g h t.view [] of makes tt tt opened

pub returns-in-Full-clause-nodes : goal.returns-in-Full-clause-nodes
returns-in-Full-clause-nodes c =
    let h = the_view c.hand.inside in
    let g = c.args.table.now in
    let of : IsHandOf g h = subst (IsHandOf g) (sym c.hand.view_is) c.requires.hand in
    let n : HasItsNodes h = subst HasItsNodes (sym c.hand.view_is) c.requires.nodes in
    let opened : HasPass h.token.view = subst (λ (k : HandValue). HasPass k.token.view) (sym c.hand.view_is)
    c.requires.pass in
    let t = c.place.new.token in
    let s = c.take-spare.result in
    let p = c.in-Full.ensures.placed in
    let makes = p.1.1.makes in
    let bare : h.spare ≡ None = sym c.take-spare.ensures.value ∙ p.1.0 in
    let after = sym c.take-spare.ensures.after in
    calm_nodes g h t [] of makes tt c.in-Full.ensures.table c.take-spare.new.self n
    (subst (λ (o : Option Life). HoldsNoOther o t.view) after (still_none g h t.view of makes bare n))

pub returns-in-Lost-clause-hand : goal.returns-in-Lost-clause-hand
returns-in-Lost-clause-hand c =
    let h = the_view c.hand.inside in
    let g = c.args.table.now in
    let of : IsHandOf g h = subst (IsHandOf g) (sym c.hand.view_is) c.requires.hand in
    let n : HasItsNodes h = subst HasItsNodes (sym c.hand.view_is) c.requires.nodes in
    let opened : HasPass h.token.view = subst (λ (k : HandValue). HasPass k.token.view) (sym c.hand.view_is)
    c.requires.pass in
    let t = c.place.new.token in
    let s = c.take-spare.result in
    let p = c.in-Lost.ensures.placed in
    let r = p.first in
    let calm = readies_calm p.taken h.token.view t.view r in
    calm_hand g h t r.own of r.makes calm c.in-Lost.ensures.table c.in-Lost.spare p.held

pub returns-in-Lost-clause-pass : goal.returns-in-Lost-clause-pass
returns-in-Lost-clause-pass c =
    let h = the_view c.hand.inside in
    let g = c.args.table.now in
    let of : IsHandOf g h = subst (IsHandOf g) (sym c.hand.view_is) c.requires.hand in
    let n : HasItsNodes h = subst HasItsNodes (sym c.hand.view_is) c.requires.nodes in
    let opened : HasPass h.token.view = subst (λ (k : HandValue). HasPass k.token.view) (sym c.hand.view_is)
    c.requires.pass in
    let t = c.place.new.token in
    let s = c.take-spare.result in
    let p = c.in-Lost.ensures.placed in
    let r = p.first in
    let calm = readies_calm p.taken h.token.view t.view r in
    calm_pass g h t.view r.own of r.makes calm (readies_stays p.taken h.token.view t.view r) opened

pub returns-in-Lost-clause-nodes : goal.returns-in-Lost-clause-nodes
returns-in-Lost-clause-nodes c =
    let h = the_view c.hand.inside in
    let g = c.args.table.now in
    let of : IsHandOf g h = subst (IsHandOf g) (sym c.hand.view_is) c.requires.hand in
    let n : HasItsNodes h = subst HasItsNodes (sym c.hand.view_is) c.requires.nodes in
    let opened : HasPass h.token.view = subst (λ (k : HandValue). HasPass k.token.view) (sym c.hand.view_is)
    c.requires.pass in
    let t = c.place.new.token in
    let s = c.take-spare.result in
    let p = c.in-Lost.ensures.placed in
    let r = p.first in
    let calm = readies_calm p.taken h.token.view t.view r in
    calm_nodes g h t r.own of r.makes calm c.in-Lost.ensures.table c.in-Lost.spare n p.other

pub place-requires-clause-limit : goal.place-requires-clause-limit
place-requires-clause-limit c =
    let h = the_view c.hand.inside in
    let low = c.requires.limit in
    let same = ap (λ (k : HandValue). made pops k.token.view.number k.token.view.front + may_take k.spare)
    c.hand.view_is in
    let value = ap may_take c.take-spare.ensures.value in
    omega (arith, low, same, value)
