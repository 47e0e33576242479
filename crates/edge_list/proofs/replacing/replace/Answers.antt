use Rattle.std.proofs.Common.{rules, ap, inl, inr, refl, sym, subst, ◌≡◌, ◌≢◌, ◌<◌, ◌∙◌, []}
use Rattle.packed_link.specs.Link.{mark_of}
use Rattle.packed_link.specs.Layout.{Sizes, link_at}
use Rattle.core_stretches.proofs.HoldingsStay.{makes_fresh_by_kind}
use Rattle.core_stretches.proofs.MakesAddUp.{makes_look}
use Rattle.edge_list.specs.EdgeMarks.{FoundEdgeMarked, IsEdgeReplaced, IsRaisedEdge, IsReplaceLost, RaisedValue}
use Rattle.edge_list.proofs.EdgeMarksTell.{found_marked}
use Rattle.edge_list.proofs.ReplacementsTell.{may_replace, raised_m, replace_lost, replaced, target_fits}
use Rattle.edge_list.proofs.replacing.replace.Goals as goal

pub returns-then-marked-clause-replaced : goal.returns-then-marked-clause-replaced
returns-then-marked-clause-replaced c =
    let v = c.args.token.now.view in
    let r : RaisedValue = record { source = c.raised.inside.source; edge = c.raised.inside.edge } in
    let h : IsRaisedEdge v r = subst (λ (q : RaisedValue). IsRaisedEdge v q) (sym c.raised.view_is) c.requires.raised in
    let u = c.load.new.token.view in
    let x = c.args.fresh in
    let at : c.link_at.result ≡ link_at v.sizes r.edge.life.index = c.link_at.ensures.place ∙ ap
    (λ (s : Sizes). link_at s r.edge.life.index) (c.layout-layout.ensures.sizes ∙ sym c.requires.table.sizes) in
    let l = c.load.ensures.looked in
    let dead : mark_of c.load.result ≡ 1 = search rules in (
      refl,
      inl (subst (λ (q : RaisedValue). FoundEdgeMarked q v u) c.raised.view_is
          (found_marked v u r _ c.load.result c.requires.table.layout c.requires.number
          c.requires.table.sound h at l dead)),
    )

pub fill_edge-requires-clause-fresh : goal.fill_edge-requires-clause-fresh
fill_edge-requires-clause-fresh c =
    let v = c.args.token.now.view in
    let r : RaisedValue = record { source = c.raised.inside.source; edge = c.raised.inside.edge } in
    let h : IsRaisedEdge v r = subst (λ (q : RaisedValue). IsRaisedEdge v q) (sym c.raised.view_is) c.requires.raised in
    let u = c.load.new.token.view in
    let x = c.args.fresh in
    let at : c.link_at.result ≡ link_at v.sizes r.edge.life.index = c.link_at.ensures.place ∙ ap
    (λ (s : Sizes). link_at s r.edge.life.index) (c.layout-layout.ensures.sizes ∙ sym c.requires.table.sizes) in
    let l = c.load.ensures.looked in
    let looked = makes_look v u _ c.load.result c.requires.number c.requires.table.sound l in
    let fresh = (makes_fresh_by_kind v u [] c.requires.table.layout x tt looked c.requires.fresh).0 in
    fresh

pub fill_edge-requires-clause-target : goal.fill_edge-requires-clause-target
fill_edge-requires-clause-target c =
    let v = c.args.token.now.view in
    let r : RaisedValue = record { source = c.raised.inside.source; edge = c.raised.inside.edge } in
    let h : IsRaisedEdge v r = subst (λ (q : RaisedValue). IsRaisedEdge v q) (sym c.raised.view_is) c.requires.raised in
    let fits = target_fits v r c.requires.table.layout c.requires.table.sound.kept h in
    subst (λ (s : Sizes). r.edge.target.index < s.nodes) c.requires.table.sizes fits.0

pub fill_edge-requires-clause-tag : goal.fill_edge-requires-clause-tag
fill_edge-requires-clause-tag c =
    let v = c.args.token.now.view in
    let r : RaisedValue = record { source = c.raised.inside.source; edge = c.raised.inside.edge } in
    let h : IsRaisedEdge v r = subst (λ (q : RaisedValue). IsRaisedEdge v q) (sym c.raised.view_is) c.requires.raised in
    let fits = target_fits v r c.requires.table.layout c.requires.table.sound.kept h in
    fits.1

pub replace_edge-requires-clause-may : goal.replace_edge-requires-clause-may
replace_edge-requires-clause-may c =
    let v = c.args.token.now.view in
    let r : RaisedValue = record { source = c.raised.inside.source; edge = c.raised.inside.edge } in
    let h : IsRaisedEdge v r = subst (λ (q : RaisedValue). IsRaisedEdge v q) (sym c.raised.view_is) c.requires.raised in
    let u = c.load.new.token.view in
    let x = c.args.fresh in
    let at : c.link_at.result ≡ link_at v.sizes r.edge.life.index = c.link_at.ensures.place ∙ ap
    (λ (s : Sizes). link_at s r.edge.life.index) (c.layout-layout.ensures.sizes ∙ sym c.requires.table.sizes) in
    let l = c.load.ensures.looked in
    let live : mark_of c.load.result ≡ 0 = search rules in
    let m = c.fill_edge.new.token.view in
    let other : r.edge.weight ≢ c.args.weight = λ same. c.requires.other
    (ap (λ (q : RaisedValue). q.edge.weight) (sym c.raised.view_is) ∙ same) in
    may_replace m r c.args.weight c.load.result x c.fill_edge.ensures.table.layout c.fill_edge.ensures.table.sound
    (raised_m v u m r c.args.weight c.load.result x _ c.requires.table.layout c.requires.number
    c.requires.table.sound h at
    l live c.fill_edge.ensures.table.sound c.fill_edge.ensures.makes c.fill_edge.ensures.filled)
    c.fill_edge.ensures.filled live other

pub returns-in-Won-clause-replaced : goal.returns-in-Won-clause-replaced
returns-in-Won-clause-replaced c =
    let v = c.args.token.now.view in
    let r : RaisedValue = record { source = c.raised.inside.source; edge = c.raised.inside.edge } in
    let h : IsRaisedEdge v r = subst (λ (q : RaisedValue). IsRaisedEdge v q) (sym c.raised.view_is) c.requires.raised in
    let u = c.load.new.token.view in
    let x = c.args.fresh in
    let at : c.link_at.result ≡ link_at v.sizes r.edge.life.index = c.link_at.ensures.place ∙ ap
    (λ (s : Sizes). link_at s r.edge.life.index) (c.layout-layout.ensures.sizes ∙ sym c.requires.table.sizes) in
    let l = c.load.ensures.looked in
    let live : mark_of c.load.result ≡ 0 = search rules in
    let m = c.fill_edge.new.token.view in
    let other : r.edge.weight ≢ c.args.weight = λ same. c.requires.other
    (ap (λ (q : RaisedValue). q.edge.weight) (sym c.raised.view_is) ∙ same) in
    let place : link_at c.args.table.now.sizes r.edge.life.index ≡ link_at m.sizes r.edge.life.index = ap
    (λ (s : Sizes). link_at s r.edge.life.index) (sym c.fill_edge.ensures.table.sizes) in
    let w = c.replace_edge.new.token.view in (
      c.in-Won.ensures.tried.0,
      subst (λ (q : RaisedValue). IsEdgeReplaced q c.args.weight x v w) c.raised.view_is
          (replaced v u m r c.args.weight c.load.result x _ c.requires.table.layout c.requires.number
          c.requires.table.sound h at
          l live c.fill_edge.ensures.table.sound c.fill_edge.ensures.makes c.fill_edge.ensures.filled
          other w _ place c.in-Won.ensures.tried.1),
    )

pub returns-in-Lost-clause-replaced : goal.returns-in-Lost-clause-replaced
returns-in-Lost-clause-replaced c =
    let v = c.args.token.now.view in
    let r : RaisedValue = record { source = c.raised.inside.source; edge = c.raised.inside.edge } in
    let h : IsRaisedEdge v r = subst (λ (q : RaisedValue). IsRaisedEdge v q) (sym c.raised.view_is) c.requires.raised in
    let u = c.load.new.token.view in
    let x = c.args.fresh in
    let at : c.link_at.result ≡ link_at v.sizes r.edge.life.index = c.link_at.ensures.place ∙ ap
    (λ (s : Sizes). link_at s r.edge.life.index) (c.layout-layout.ensures.sizes ∙ sym c.requires.table.sizes) in
    let l = c.load.ensures.looked in
    let live : mark_of c.load.result ≡ 0 = search rules in
    let m = c.fill_edge.new.token.view in
    let other : r.edge.weight ≢ c.args.weight = λ same. c.requires.other
    (ap (λ (q : RaisedValue). q.edge.weight) (sym c.raised.view_is) ∙ same) in
    let looked = makes_look v u _ c.load.result c.requires.number c.requires.table.sound l in
    let fresh = (makes_fresh_by_kind v u [] c.requires.table.layout x tt looked c.requires.fresh).0 in
    let place : link_at c.args.table.now.sizes r.edge.life.index ≡ link_at m.sizes r.edge.life.index = ap
    (λ (s : Sizes). link_at s r.edge.life.index) (sym c.fill_edge.ensures.table.sizes) in
    let w = c.replace_edge.new.token.view in (
      c.in-Lost.ensures.tried.0,
      inr (subst (λ (q : RaisedValue). IsReplaceLost q c.args.weight x v w)
          c.raised.view_is
          (replace_lost v u m r c.args.weight c.load.result x _ c.requires.table.layout c.requires.number
          c.requires.table.sound h at
          l live c.fill_edge.ensures.table.sound c.fill_edge.ensures.makes c.fill_edge.ensures.filled
          w _ _ c.replace_edge.ensures.table.layout fresh place c.in-Lost.ensures.tried.1)),
    )
