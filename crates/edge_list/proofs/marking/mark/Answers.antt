use Rattle.std.proofs.Common.{rules, arith, ap, ap₂, sym, subst, ◌≡◌, ◌≢◌, ◌∙◌}
use Rattle.packed_link.specs.Link.{index_of, mark_of, nowhere}
use Rattle.packed_link.specs.Layout.{Sizes, key_at, link_at}
use Rattle.edge_list.specs.EdgeMarks.{IsEdgeMarked, IsRaisedEdge, RaisedValue, WasEdgeMarked, WasEdgeReplaced}
use Rattle.edge_list.proofs.EdgeMarksTell.{edge_cut, next_is_there, was_at_end, was_cut, was_replaced}
use Rattle.edge_list.proofs.marking.mark.Goals as goal

pub returns-then-not-marked-clause-marked : goal.returns-then-not-marked-clause-marked
returns-then-not-marked-clause-marked c =
    let v = c.args.token.now.view in
    let r : RaisedValue = record { source = c.raised.inside.source; edge = c.raised.inside.edge } in
    let h : IsRaisedEdge v r = subst (λ (q : RaisedValue). IsRaisedEdge v q) (sym c.raised.view_is) c.requires.raised in
    let u = c.mark_edge.new.token.view in
    let at : link_at c.args.table.now.sizes r.edge.life.index ≡ link_at v.sizes r.edge.life.index = ap
    (λ (s : Sizes). link_at s r.edge.life.index) (sym c.requires.table.sizes) in
    let live : mark_of c.mark_edge.result ≡ 0 = search rules in
    subst (λ (q : RaisedValue). IsEdgeMarked q v u) c.raised.view_is
    (edge_cut v u r _ c.mark_edge.result c.requires.table.layout c.requires.number c.requires.table.sound h at
    (c.mark_edge.ensures.marked.won live) live)

pub returns-then-next-eq16777215-clause-marked : goal.returns-then-next-eq16777215-clause-marked
returns-then-next-eq16777215-clause-marked c =
    let v = c.args.token.now.view in
    let r : RaisedValue = record { source = c.raised.inside.source; edge = c.raised.inside.edge } in
    let h : IsRaisedEdge v r = subst (λ (q : RaisedValue). IsRaisedEdge v q) (sym c.raised.view_is) c.requires.raised in
    let u = c.mark_edge.new.token.view in
    let at : link_at c.args.table.now.sizes r.edge.life.index ≡ link_at v.sizes r.edge.life.index = ap
    (λ (s : Sizes). link_at s r.edge.life.index) (sym c.requires.table.sizes) in
    let dead : mark_of c.mark_edge.result ≡ 1 = search rules in
    let l = c.mark_edge.ensures.marked.was dead in
    subst (λ (q : RaisedValue). WasEdgeMarked q v u) c.raised.view_is
    (was_at_end v u r _ c.mark_edge.result c.requires.table.layout c.requires.number c.requires.table.sound h at l dead
    (omega (arith, c.index-next.ensures.index, c.if-next-eq16777215.true)))

pub key_at-requires : goal.key_at-requires
key_at-requires c =
    let v = c.args.token.now.view in
    let r : RaisedValue = record { source = c.raised.inside.source; edge = c.raised.inside.edge } in
    let h : IsRaisedEdge v r = subst (λ (q : RaisedValue). IsRaisedEdge v q) (sym c.raised.view_is) c.requires.raised in
    let u = c.mark_edge.new.token.view in
    let at : link_at c.args.table.now.sizes r.edge.life.index ≡ link_at v.sizes r.edge.life.index = ap
    (λ (s : Sizes). link_at s r.edge.life.index) (sym c.requires.table.sizes) in
    let dead : mark_of c.mark_edge.result ≡ 1 = search rules in
    let l = c.mark_edge.ensures.marked.was dead in
    let some : index_of c.mark_edge.result ≢ nowhere = λ e. omega
    (arith, c.index-next.ensures.index, c.if-next-eq16777215.false, e) in
    let there = next_is_there v u r _ c.mark_edge.result c.requires.table.layout c.requires.number
    c.requires.table.sound h at l dead
    some in
    omega (
      arith,
      there,
      c.index-next.ensures.index,
      ap (λ (s : Sizes). s.nodes) c.mark_edge.ensures.table.sizes,
      ap (λ (s : Sizes). s.nodes) c.layout-layout.ensures.sizes,
    )

pub returns-then-behind-from-clause-marked : goal.returns-then-behind-from-clause-marked
returns-then-behind-from-clause-marked c =
    let v = c.args.token.now.view in
    let r : RaisedValue = record { source = c.raised.inside.source; edge = c.raised.inside.edge } in
    let h : IsRaisedEdge v r = subst (λ (q : RaisedValue). IsRaisedEdge v q) (sym c.raised.view_is) c.requires.raised in
    let u = c.mark_edge.new.token.view in
    let at : link_at c.args.table.now.sizes r.edge.life.index ≡ link_at v.sizes r.edge.life.index = ap
    (λ (s : Sizes). link_at s r.edge.life.index) (sym c.requires.table.sizes) in
    let dead : mark_of c.mark_edge.result ≡ 1 = search rules in
    let l = c.mark_edge.ensures.marked.was dead in
    let some : index_of c.mark_edge.result ≢ nowhere = λ e. omega
    (arith, c.index-next.ensures.index, c.if-next-eq16777215.false, e) in
    let w = c.load-behind.new.token.view in
    let key : c.key_at.result ≡ key_at u.sizes (index_of c.mark_edge.result) = c.key_at.ensures.place ∙ ap₂ key_at
    (c.layout-layout.ensures.sizes ∙ sym c.mark_edge.ensures.table.sizes) c.index-next.ensures.index in
    subst (λ (q : RaisedValue). WasEdgeReplaced q v w) c.raised.view_is
    (was_replaced v u r _ c.mark_edge.result c.requires.table.layout c.requires.number
    c.requires.table.sound h at l dead
    w _ c.load-behind.result some key c.load-behind.ensures.looked (c.if-behind-from.true ∙ c.from.ensures))

pub returns-else-behind-from-clause-marked : goal.returns-else-behind-from-clause-marked
returns-else-behind-from-clause-marked c =
    let v = c.args.token.now.view in
    let r : RaisedValue = record { source = c.raised.inside.source; edge = c.raised.inside.edge } in
    let h : IsRaisedEdge v r = subst (λ (q : RaisedValue). IsRaisedEdge v q) (sym c.raised.view_is) c.requires.raised in
    let u = c.mark_edge.new.token.view in
    let at : link_at c.args.table.now.sizes r.edge.life.index ≡ link_at v.sizes r.edge.life.index = ap
    (λ (s : Sizes). link_at s r.edge.life.index) (sym c.requires.table.sizes) in
    let dead : mark_of c.mark_edge.result ≡ 1 = search rules in
    let l = c.mark_edge.ensures.marked.was dead in
    let some : index_of c.mark_edge.result ≢ nowhere = λ e. omega
    (arith, c.index-next.ensures.index, c.if-next-eq16777215.false, e) in
    let w = c.load-behind.new.token.view in
    let key : c.key_at.result ≡ key_at u.sizes (index_of c.mark_edge.result) = c.key_at.ensures.place ∙ ap₂ key_at
    (c.layout-layout.ensures.sizes ∙ sym c.mark_edge.ensures.table.sizes) c.index-next.ensures.index in
    subst (λ (q : RaisedValue). WasEdgeMarked q v w) c.raised.view_is
    (was_cut v u r _ c.mark_edge.result c.requires.table.layout c.requires.number c.requires.table.sound h at l dead
    w _ c.load-behind.result some key c.load-behind.ensures.looked
    (λ same. c.if-behind-from.false (same ∙ sym c.from.ensures)))
