use Rattle.std.proofs.Common.{ℕ, Some, [], inr, refl, sym, ap, ◌∙◌, ◌≡◌, subst}
use Rattle.core_journal.specs.Life.{key_of, vertex_marked}
use Rattle.core_stretches.proofs.MakesTell.{makes_later}
use Rattle.graph_updates.specs.EdgeLocating.{WasEdgeHere}
use Rattle.graph_updates.specs.Hands.{HandValue, IsHandOf}
use Rattle.graph_updates.specs.Parts.{HasHelped}
use Rattle.graph_updates.specs.contracts.hand.Hand.{the_view}
use Rattle.graph_updates.proofs.EndsTell.{found_later, key_later, looked, looked_helped, looked_of, marked_over}
use Rattle.graph_updates.proofs.EndsTell.{other_over}
use Rattle.graph_updates.proofs.EndsTell.{told_apart, unmarked_alive}
use Rattle.graph_updates.proofs.HandsHelp.{has_helped_chain}
use Rattle.graph_updates.proofs.LocatingTells.{helped_grows}
use Rattle.graph_updates.proofs.pairs.find_pair.Goals as goal

pub is_alive-requires-clause-linked : goal.is_alive-requires-clause-linked
is_alive-requires-clause-linked c =
    let s = c.in-Here.seen in
    subst (λ (h : HandValue). (k : ℕ) × (key_of h.token.view.front s.edge.target ≡ Some k)) (sym c.hand.view_is)
    (s.edge.key, c.in-Here.ensures.sought.target.linked)

pub returns-then-is_alive-clause-hand : goal.returns-then-is_alive-clause-hand
returns-then-is_alive-clause-hand c =
    let g = c.args.table.now in
    let h = the_view c.hand.inside in
    let of : IsHandOf g h = subst (IsHandOf g) (sym c.hand.view_is) c.in-Here.ensures.hand in
    let t = c.is_alive.new.token in
    looked_of g h t of c.is_alive.ensures.table c.is_alive.ensures.makes

pub returns-then-is_alive-clause-helped : goal.returns-then-is_alive-clause-helped
returns-then-is_alive-clause-helped c =
    let g = c.args.table.now in
    let h = the_view c.hand.inside in
    let of : IsHandOf g h = subst (IsHandOf g) (sym c.hand.view_is) c.in-Here.ensures.hand in
    let t = c.is_alive.new.token in
    let first : HasHelped c.args.hand.now h = subst (HasHelped c.args.hand.now) (sym c.hand.view_is)
    c.in-Here.ensures.helped in
    has_helped_chain c.args.hand.now h (looked g h t of c.is_alive.ensures.table c.is_alive.ensures.makes) first
    (looked_helped g h t of c.is_alive.ensures.table c.is_alive.ensures.makes)

pub returns-clause-hand : goal.returns-clause-hand
returns-clause-hand c =
    let g = c.args.table.now in
    let h = the_view c.hand.inside in
    let of : IsHandOf g h = subst (IsHandOf g) (sym c.hand.view_is) c.in-Here.ensures.hand in
    let t = c.is_alive.new.token in
    looked_of g h t of c.is_alive.ensures.table c.is_alive.ensures.makes

pub returns-clause-helped : goal.returns-clause-helped
returns-clause-helped c =
    let g = c.args.table.now in
    let h = the_view c.hand.inside in
    let of : IsHandOf g h = subst (IsHandOf g) (sym c.hand.view_is) c.in-Here.ensures.hand in
    let t = c.is_alive.new.token in
    let first : HasHelped c.args.hand.now h = subst (HasHelped c.args.hand.now) (sym c.hand.view_is)
    c.in-Here.ensures.helped in
    has_helped_chain c.args.hand.now h (looked g h t of c.is_alive.ensures.table c.is_alive.ensures.makes) first
    (looked_helped g h t of c.is_alive.ensures.table c.is_alive.ensures.makes)

pub returns-then-is_alive-clause-found : goal.returns-then-is_alive-clause-found
returns-then-is_alive-clause-found c =
    let h = the_view c.hand.inside in
    let s = c.in-Here.seen in
    let v = c.args.hand.now.token.view in
    let m = h.token.view in
    let w = c.is_alive.new.token.view in
    let l = makes_later m w [] c.is_alive.ensures.makes in
    let first : HasHelped c.args.hand.now h = subst (HasHelped c.args.hand.now) (sym c.hand.view_is)
    c.in-Here.ensures.helped in
    let linked : key_of m.front s.edge.target ≡ Some c.args.to = subst
    (λ (k : HandValue). key_of k.token.view.front s.edge.target ≡ Some c.args.to) (sym c.hand.view_is)
    (c.in-Here.ensures.sought.target.linked ∙ ap Some c.in-Here.ensures.sought.key_is) in
    let target = key_later m w l.grows s.edge.target c.args.to linked in
    let to = key_later m w l.grows c.args.ends.to c.args.to
    (key_later v m (helped_grows c.args.hand.now h first) c.args.ends.to c.args.to c.requires.key) in
    let live = unmarked_alive c.is_alive.result (vertex_marked w.front s.edge.target) c.is_alive.ensures.alive
    c.if-is_alive.true in (
      inr refl,
      other_over w.sizes c.is_alive.ensures.table.layout w.front c.is_alive.ensures.table.sound.kept s.edge.target
          c.args.ends.to c.args.to target live to (told_apart s.edge.target c.args.ends.to c.eq.result c.eq.ensures
          c.if-eq.false),
    )

pub returns-clause-found : goal.returns-clause-found
returns-clause-found c =
    let h = the_view c.hand.inside in
    let s = c.in-Here.seen in
    let w = c.is_alive.new.token.view in
    let here : WasEdgeHere c.args.ends.from c.args.to c.args.hand.now.token.view h.token.view s = subst
    (λ (k : HandValue). WasEdgeHere c.args.ends.from c.args.to c.args.hand.now.token.view k.token.view s)
    (sym c.hand.view_is) c.in-Here.ensures.sought in
    let of : IsHandOf c.args.table.now h = subst (IsHandOf c.args.table.now) (sym c.hand.view_is)
    c.in-Here.ensures.hand in (
      found_later c.args.ends.from c.args.to c.args.hand.now.token.view h.token.view w s of.of.layout
          c.is_alive.ensures.makes here,
      (
        (told_apart s.edge.target c.args.ends.to c.eq.result c.eq.ensures c.if-eq.false),
        marked_over c.is_alive.result
            (vertex_marked w.front s.edge.target) c.is_alive.ensures.alive c.if-is_alive.false,
      ),
    )
