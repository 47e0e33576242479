use Rattle.std.proofs.Common.{◌≡◌, ◌-◌, ℕ, ap, arith, sym, subst, false}
use Rattle.graph_updates.specs.contracts.hand.Hand.{the_view}
use Rattle.core_rule.specs.Stretches.{HasPass}
use Rattle.graph_table.specs.Tokens.{TokenValue}
use Rattle.graph_updates.specs.Hands.{HandValue, HasItsNodes, IsHandOf}
use Rattle.graph_updates.specs.Locating.{WasHere}
use Rattle.graph_updates.specs.Parts.{Fell, HasHelped}
use Rattle.graph_updates.proofs.AddingAddsUp.{helped_on}
use Rattle.graph_updates.proofs.LocatingTells.{fell_as, helped_number}
use Rattle.graph_updates.proofs.RemovingTells.{marked_hand, marked_nodes, marked_pass, removed_is, was_hand}
use Rattle.graph_updates.proofs.RemovingTells.{was_marked_is, was_nodes, was_pass}
use Rattle.graph_updates.proofs.SeekingSteps.{helps_pass}
use Rattle.graph_updates.proofs.removing.remove.Goals as goal

pub find-requires-clause-hand : goal.find-requires-clause-hand
find-requires-clause-hand c =
    let o = c.args.hand.now in
    let g = c.args.table.now in
    let k = c.locate.new.hand in
    let e = c.in-Here.ensures in
    let opened : HasPass k.token.view = helps_pass o.token.view k.token.view c.requires.hand.of.layout
    e.helped.helped.only c.requires.pass in
    let n : HasItsNodes k = e.helped.nodes c.requires.nodes in
    let h = the_view c.hand.inside in
    let of : IsHandOf g h = subst (IsHandOf g) (sym c.hand.view_is) e.hand in
    let open_h : HasPass h.token.view = subst (λ (q : HandValue). HasPass q.token.view) (sym c.hand.view_is) opened in
    let nodes_h : HasItsNodes h = subst HasItsNodes (sym c.hand.view_is) n in
    let first : HasHelped o h = subst (HasHelped o) (sym c.hand.view_is) e.helped in
    let s = c.in-Here.seen in
    let here : WasHere c.args.key o.token.view h.token.view s = subst
    (λ (q : HandValue). WasHere c.args.key o.token.view q.token.view s) (sym c.hand.view_is) e.located.1 in
    let t = c.mark.new.token in
    let m = c.in-Won.ensures.marked in
    let now = c.in-Won.ensures.table in
    marked_hand g h t of now s.life m

pub find-requires-clause-pass : goal.find-requires-clause-pass
find-requires-clause-pass c =
    let o = c.args.hand.now in
    let g = c.args.table.now in
    let k = c.locate.new.hand in
    let e = c.in-Here.ensures in
    let opened : HasPass k.token.view = helps_pass o.token.view k.token.view c.requires.hand.of.layout
    e.helped.helped.only c.requires.pass in
    let n : HasItsNodes k = e.helped.nodes c.requires.nodes in
    let h = the_view c.hand.inside in
    let of : IsHandOf g h = subst (IsHandOf g) (sym c.hand.view_is) e.hand in
    let open_h : HasPass h.token.view = subst (λ (q : HandValue). HasPass q.token.view) (sym c.hand.view_is) opened in
    let nodes_h : HasItsNodes h = subst HasItsNodes (sym c.hand.view_is) n in
    let first : HasHelped o h = subst (HasHelped o) (sym c.hand.view_is) e.helped in
    let s = c.in-Here.seen in
    let here : WasHere c.args.key o.token.view h.token.view s = subst
    (λ (q : HandValue). WasHere c.args.key o.token.view q.token.view s) (sym c.hand.view_is) e.located.1 in
    let t = c.mark.new.token in
    let m = c.in-Won.ensures.marked in
    let now = c.in-Won.ensures.table in
    marked_pass g h t of now s.life m open_h

pub returns-in-Won-clause-pass : goal.returns-in-Won-clause-pass
returns-in-Won-clause-pass c =
    let o = c.args.hand.now in
    let g = c.args.table.now in
    let k = c.locate.new.hand in
    let e = c.in-Here.ensures in
    let opened : HasPass k.token.view = helps_pass o.token.view k.token.view c.requires.hand.of.layout
    e.helped.helped.only c.requires.pass in
    let n : HasItsNodes k = e.helped.nodes c.requires.nodes in
    let h = the_view c.hand.inside in
    let of : IsHandOf g h = subst (IsHandOf g) (sym c.hand.view_is) e.hand in
    let open_h : HasPass h.token.view = subst (λ (q : HandValue). HasPass q.token.view) (sym c.hand.view_is) opened in
    let nodes_h : HasItsNodes h = subst HasItsNodes (sym c.hand.view_is) n in
    let first : HasHelped o h = subst (HasHelped o) (sym c.hand.view_is) e.helped in
    let s = c.in-Here.seen in
    let here : WasHere c.args.key o.token.view h.token.view s = subst
    (λ (q : HandValue). WasHere c.args.key o.token.view q.token.view s) (sym c.hand.view_is) e.located.1 in
    let t = c.mark.new.token in
    let m = c.in-Won.ensures.marked in
    let now = c.in-Won.ensures.table in
    helps_pass t.view c.find.new.hand.token.view now.layout c.find.ensures.helped.helped.only
    (marked_pass g h t of now s.life m open_h)

pub returns-in-Won-clause-nodes : goal.returns-in-Won-clause-nodes
returns-in-Won-clause-nodes c =
    let o = c.args.hand.now in
    let g = c.args.table.now in
    let k = c.locate.new.hand in
    let e = c.in-Here.ensures in
    let opened : HasPass k.token.view = helps_pass o.token.view k.token.view c.requires.hand.of.layout
    e.helped.helped.only c.requires.pass in
    let n : HasItsNodes k = e.helped.nodes c.requires.nodes in
    let h = the_view c.hand.inside in
    let of : IsHandOf g h = subst (IsHandOf g) (sym c.hand.view_is) e.hand in
    let open_h : HasPass h.token.view = subst (λ (q : HandValue). HasPass q.token.view) (sym c.hand.view_is) opened in
    let nodes_h : HasItsNodes h = subst HasItsNodes (sym c.hand.view_is) n in
    let first : HasHelped o h = subst (HasHelped o) (sym c.hand.view_is) e.helped in
    let s = c.in-Here.seen in
    let here : WasHere c.args.key o.token.view h.token.view s = subst
    (λ (q : HandValue). WasHere c.args.key o.token.view q.token.view s) (sym c.hand.view_is) e.located.1 in
    let t = c.mark.new.token in
    let m = c.in-Won.ensures.marked in
    let now = c.in-Won.ensures.table in
    c.find.ensures.helped.nodes (marked_nodes g h t of now s.life m nodes_h)

pub returns-in-Won-clause-removed : goal.returns-in-Won-clause-removed
returns-in-Won-clause-removed c =
    let o = c.args.hand.now in
    let g = c.args.table.now in
    let k = c.locate.new.hand in
    let e = c.in-Here.ensures in
    let opened : HasPass k.token.view = helps_pass o.token.view k.token.view c.requires.hand.of.layout
    e.helped.helped.only c.requires.pass in
    let n : HasItsNodes k = e.helped.nodes c.requires.nodes in
    let h = the_view c.hand.inside in
    let of : IsHandOf g h = subst (IsHandOf g) (sym c.hand.view_is) e.hand in
    let open_h : HasPass h.token.view = subst (λ (q : HandValue). HasPass q.token.view) (sym c.hand.view_is) opened in
    let nodes_h : HasItsNodes h = subst HasItsNodes (sym c.hand.view_is) n in
    let first : HasHelped o h = subst (HasHelped o) (sym c.hand.view_is) e.helped in
    let s = c.in-Here.seen in
    let here : WasHere c.args.key o.token.view h.token.view s = subst
    (λ (q : HandValue). WasHere c.args.key o.token.view q.token.view s) (sym c.hand.view_is) e.located.1 in
    let t = c.mark.new.token in
    let m = c.in-Won.ensures.marked in
    let now = c.in-Won.ensures.table in
    removed_is g c.args.key o h c.find.new.hand t c.of-moment.result.value s of
    (c.find.ensures.helped.nodes (marked_nodes g h t of now s.life m nodes_h)) first here m
    (ap (λ (q : TokenValue). q.view.front) c.of-moment.ensures) c.find.ensures.helped

pub returns-in-Here-clause-hand : goal.returns-in-Here-clause-hand
returns-in-Here-clause-hand c =
    let o = c.args.hand.now in
    let g = c.args.table.now in
    let k = c.locate.new.hand in
    let e = c.in-Here.ensures in
    let opened : HasPass k.token.view = helps_pass o.token.view k.token.view c.requires.hand.of.layout
    e.helped.helped.only c.requires.pass in
    let n : HasItsNodes k = e.helped.nodes c.requires.nodes in
    let h = the_view c.hand.inside in
    let of : IsHandOf g h = subst (IsHandOf g) (sym c.hand.view_is) e.hand in
    let open_h : HasPass h.token.view = subst (λ (q : HandValue). HasPass q.token.view) (sym c.hand.view_is) opened in
    let nodes_h : HasItsNodes h = subst HasItsNodes (sym c.hand.view_is) n in
    let first : HasHelped o h = subst (HasHelped o) (sym c.hand.view_is) e.helped in
    let s = c.in-Here.seen in
    let here : WasHere c.args.key o.token.view h.token.view s = subst
    (λ (q : HandValue). WasHere c.args.key o.token.view q.token.view s) (sym c.hand.view_is) e.located.1 in
    let t = c.mark.new.token in
    let w = c.in-Was.ensures.marked in
    let now = c.in-Was.ensures.table in
    was_hand g h t of now w.makes

pub returns-in-Here-clause-pass : goal.returns-in-Here-clause-pass
returns-in-Here-clause-pass c =
    let o = c.args.hand.now in
    let g = c.args.table.now in
    let k = c.locate.new.hand in
    let e = c.in-Here.ensures in
    let opened : HasPass k.token.view = helps_pass o.token.view k.token.view c.requires.hand.of.layout
    e.helped.helped.only c.requires.pass in
    let n : HasItsNodes k = e.helped.nodes c.requires.nodes in
    let h = the_view c.hand.inside in
    let of : IsHandOf g h = subst (IsHandOf g) (sym c.hand.view_is) e.hand in
    let open_h : HasPass h.token.view = subst (λ (q : HandValue). HasPass q.token.view) (sym c.hand.view_is) opened in
    let nodes_h : HasItsNodes h = subst HasItsNodes (sym c.hand.view_is) n in
    let first : HasHelped o h = subst (HasHelped o) (sym c.hand.view_is) e.helped in
    let s = c.in-Here.seen in
    let here : WasHere c.args.key o.token.view h.token.view s = subst
    (λ (q : HandValue). WasHere c.args.key o.token.view q.token.view s) (sym c.hand.view_is) e.located.1 in
    let t = c.mark.new.token in
    let w = c.in-Was.ensures.marked in
    let now = c.in-Was.ensures.table in
    was_pass g h t of now w.makes open_h

pub returns-in-Here-clause-nodes : goal.returns-in-Here-clause-nodes
returns-in-Here-clause-nodes c =
    let o = c.args.hand.now in
    let g = c.args.table.now in
    let k = c.locate.new.hand in
    let e = c.in-Here.ensures in
    let opened : HasPass k.token.view = helps_pass o.token.view k.token.view c.requires.hand.of.layout
    e.helped.helped.only c.requires.pass in
    let n : HasItsNodes k = e.helped.nodes c.requires.nodes in
    let h = the_view c.hand.inside in
    let of : IsHandOf g h = subst (IsHandOf g) (sym c.hand.view_is) e.hand in
    let open_h : HasPass h.token.view = subst (λ (q : HandValue). HasPass q.token.view) (sym c.hand.view_is) opened in
    let nodes_h : HasItsNodes h = subst HasItsNodes (sym c.hand.view_is) n in
    let first : HasHelped o h = subst (HasHelped o) (sym c.hand.view_is) e.helped in
    let s = c.in-Here.seen in
    let here : WasHere c.args.key o.token.view h.token.view s = subst
    (λ (q : HandValue). WasHere c.args.key o.token.view q.token.view s) (sym c.hand.view_is) e.located.1 in
    let t = c.mark.new.token in
    let w = c.in-Was.ensures.marked in
    let now = c.in-Was.ensures.table in
    was_nodes g h t of now w.makes nodes_h

pub returns-in-Here-clause-removed : goal.returns-in-Here-clause-removed
returns-in-Here-clause-removed c =
    let o = c.args.hand.now in
    let g = c.args.table.now in
    let k = c.locate.new.hand in
    let e = c.in-Here.ensures in
    let opened : HasPass k.token.view = helps_pass o.token.view k.token.view c.requires.hand.of.layout
    e.helped.helped.only c.requires.pass in
    let n : HasItsNodes k = e.helped.nodes c.requires.nodes in
    let h = the_view c.hand.inside in
    let of : IsHandOf g h = subst (IsHandOf g) (sym c.hand.view_is) e.hand in
    let open_h : HasPass h.token.view = subst (λ (q : HandValue). HasPass q.token.view) (sym c.hand.view_is) opened in
    let nodes_h : HasItsNodes h = subst HasItsNodes (sym c.hand.view_is) n in
    let first : HasHelped o h = subst (HasHelped o) (sym c.hand.view_is) e.helped in
    let s = c.in-Here.seen in
    let here : WasHere c.args.key o.token.view h.token.view s = subst
    (λ (q : HandValue). WasHere c.args.key o.token.view q.token.view s) (sym c.hand.view_is) e.located.1 in
    let t = c.mark.new.token in
    let w = c.in-Was.ensures.marked in
    let now = c.in-Was.ensures.table in
    was_marked_is g c.args.key o h t s c.requires.nodes (was_nodes g h t of now w.makes nodes_h) first here w

pub returns-in-Gone-clause-removed : goal.returns-in-Gone-clause-removed
returns-in-Gone-clause-removed c =
    let o = c.args.hand.now in
    let g = c.args.table.now in
    let k = c.locate.new.hand in
    let e = c.in-Gone.ensures in
    let opened : HasPass k.token.view = helps_pass o.token.view k.token.view c.requires.hand.of.layout
    e.helped.helped.only c.requires.pass in
    let n : HasItsNodes k = e.helped.nodes c.requires.nodes in
    (helped_on false o k c.requires.nodes e.helped, e.located.1)

pub returns-clause-pass : goal.returns-clause-pass
returns-clause-pass c =
    let o = c.args.hand.now in
    let g = c.args.table.now in
    let k = c.locate.new.hand in
    let e = c.in-Again.ensures in
    let opened : HasPass k.token.view = helps_pass o.token.view k.token.view c.requires.hand.of.layout
    e.helped.helped.only c.requires.pass in
    let n : HasItsNodes k = e.helped.nodes c.requires.nodes in
    opened

pub returns-clause-removed : goal.returns-clause-removed
returns-clause-removed c =
    let o = c.args.hand.now in
    let g = c.args.table.now in
    let k = c.locate.new.hand in
    let e = c.in-Again.ensures in
    let opened : HasPass k.token.view = helps_pass o.token.view k.token.view c.requires.hand.of.layout
    e.helped.helped.only c.requires.pass in
    let n : HasItsNodes k = e.helped.nodes c.requires.nodes in
    let same : c.locate.new.lost ≡ c.args.tries = e.located in
    let number = helped_number o k e.helped in (
      helped_on false o k c.requires.nodes e.helped,
      subst (λ (m : ℕ). Fell m k.token.view.number o.token.view.front k.token.view.front) same
          (subst (λ (i : ℕ). Fell c.locate.new.lost i o.token.view.front k.token.view.front) (sym number)
          (lost_all c.locate.new.lost o.token.view.number o k e.fell)),
    )
  where
    lost_all : (l i : ℕ) (a b : HandValue) → Fell (l - 0) i a.token.view.front b.token.view.front
        → Fell l i a.token.view.front b.token.view.front
    lost_all l i a b f = fell_as (l - 0) l i a.token.view.front b.token.view.front (omega arith) f
