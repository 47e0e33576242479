use Rattle.std.proofs.Common.{rules, arith, ap, subst, sym, ◌∙◌, ◌≡◌, ◌≢◌, ◌<◌, ◌^◌, [], ℕ}
use Rattle.packed_link.specs.Link.{index_of, mark_of, nowhere}
use Rattle.packed_link.specs.Layout.{Sizes, key_at, link_at}
use Rattle.packed_link.specs.declared.link.Life.{Life}
use Rattle.core_kept.specs.Facts.{IsLinkOf}
use Rattle.core_rule.specs.Fronts.{MetEdge, key_in}
use Rattle.core_stretches.proofs.MakesAddUp.{makes_chain}
use Rattle.edge_list.specs.EdgePositions.{EdgePositionValue}
use Rattle.edge_list.specs.EdgeWalks.{IsEdgeDeadStep}
use Rattle.edge_list.proofs.EdgeWalksTell.{step_leads, edge_loaded, edge_key_fits, edge_dead_step, edge_stepped}
use Rattle.edge_list.proofs.EdgeWalksTell.{loaded_met}
use Rattle.edge_list.proofs.walks.step.Goals as goal

pub key_at-requires : goal.key_at-requires
key_at-requires c =
    let v = c.args.token.now.view in
    let p : EdgePositionValue = c.args.position in
    let h = c.requires.position.1 in
    let index : c.index-next.result ≡ index_of p.word = c.index-next.ensures.index ∙ ap index_of c.word.ensures.word in
    let some : index_of p.word ≢ nowhere = λ e. omega (arith, index, c.if-next-eq16777215.false, e) in
    let there = (step_leads c.requires.position.0 v p c.requires.table.layout h some).1.life.there in
    omega (
      arith,
      there,
      index,
      ap (λ (s : Sizes). s.nodes) c.requires.table.sizes,
      ap (λ (s : Sizes). s.nodes) c.layout-layout.ensures.sizes,
    )

pub overflow_cast-key : goal.overflow_cast-key
overflow_cast-key c =
    let v = c.args.token.now.view in
    let p : EdgePositionValue = c.args.position in
    let h = c.requires.position.1 in
    let index : c.index-next.result ≡ index_of p.word = c.index-next.ensures.index ∙ ap index_of c.word.ensures.word in
    let some : index_of p.word ≢ nowhere = λ e. omega (arith, index, c.if-next-eq16777215.false, e) in
    let key = c.key_at.ensures.place ∙ (ap (λ (s : Sizes). key_at s c.index-next.result) c.layout-layout.ensures.sizes
    ∙ ap (λ (x : ℕ). key_at c.args.table.now.sizes x) index) in
    let key_in_view = key ∙ ap (λ (s : Sizes). key_at s (index_of p.word)) (sym c.requires.table.sizes) in
    let low : c.load-key.result < 2 ^ 32 =
    edge_key_fits c.requires.position.0 v c.load-key.new.token.view p _ c.load-key.result c.requires.table.layout
    c.requires.number c.requires.table.sound h some key_in_view c.load-key.ensures.looked in
    omega (arith, low)

pub returns-then-marked-clause-stepped : goal.returns-then-marked-clause-stepped
returns-then-marked-clause-stepped c =
    let v = c.args.token.now.view in
    let p : EdgePositionValue = c.args.position in
    let h = c.requires.position.1 in
    let index : c.index-next.result ≡ index_of p.word = c.index-next.ensures.index ∙ ap index_of c.word.ensures.word in
    let some : index_of p.word ≢ nowhere = λ e. omega (arith, index, c.if-next-eq16777215.false, e) in
    let key = c.key_at.ensures.place ∙ (ap (λ (s : Sizes). key_at s c.index-next.result) c.layout-layout.ensures.sizes
    ∙ ap (λ (x : ℕ). key_at c.args.table.now.sizes x) index) in
    let u = c.load.new.token.view in
    let link = c.link_at.ensures.place ∙
    (ap (λ (s : Sizes). link_at s c.index-next.result) c.layout-layout.ensures.sizes
    ∙ ap (λ (x : ℕ). link_at c.args.table.now.sizes x) index) in
    let s = edge_loaded c.requires.position.0 c.args.table.now c.args.token.now c.load-key.new.token c.load.new.token p
    c.load-key.result c.load.result _ _ c.requires.table c.load-key.ensures.table c.requires.number h some key link
    c.load-key.ensures.looked c.load.ensures.looked in
    subst (λ (r : EdgePositionValue). IsEdgeDeadStep p v u (record r { link = c.load.result })) (sym c.position.view_is)
    (edge_dead_step v u p c.requires.position.0 c.load-key.result c.load.result s (search rules))

pub edge_at-edge-requires-clause-edge : goal.edge_at-edge-requires-clause-edge
edge_at-edge-requires-clause-edge c =
    let v = c.args.token.now.view in
    let p : EdgePositionValue = c.args.position in
    let h = c.requires.position.1 in
    let index : c.index-next.result ≡ index_of p.word = c.index-next.ensures.index ∙ ap index_of c.word.ensures.word in
    let some : index_of p.word ≢ nowhere = λ e. omega (arith, index, c.if-next-eq16777215.false, e) in
    let key = c.key_at.ensures.place ∙ (ap (λ (s : Sizes). key_at s c.index-next.result) c.layout-layout.ensures.sizes
    ∙ ap (λ (x : ℕ). key_at c.args.table.now.sizes x) index) in
    let u = c.load.new.token.view in
    let link = c.link_at.ensures.place ∙
    (ap (λ (s : Sizes). link_at s c.index-next.result) c.layout-layout.ensures.sizes
    ∙ ap (λ (x : ℕ). link_at c.args.table.now.sizes x) index) in
    let s = edge_loaded c.requires.position.0 c.args.table.now c.args.token.now c.load-key.new.token c.load.new.token p
    c.load-key.result c.load.result _ _ c.requires.table c.load-key.ensures.table c.requires.number h some key link
    c.load-key.ensures.looked c.load.ensures.looked in
    let source : c.position.inside.source ≡ p.source = ap (λ (q : EdgePositionValue). q.source) c.position.view_is in
    let met = loaded_met p.source u (index_of p.word) c.load-key.result c.load.result c.index-next.result c.tag.result
    c.load.ensures.table.layout c.load.ensures.table.sound.kept s.node index c.tag.ensures.tag in
    subst (λ (y : Life). MetEdge u y (record { index = c.index-next.result; tag = c.tag.result })) (sym source) met

pub edge_at-edge-requires-clause-key : goal.edge_at-edge-requires-clause-key
edge_at-edge-requires-clause-key c =
    let v = c.args.token.now.view in
    let p : EdgePositionValue = c.args.position in
    let h = c.requires.position.1 in
    let index : c.index-next.result ≡ index_of p.word = c.index-next.ensures.index ∙ ap index_of c.word.ensures.word in
    let some : index_of p.word ≢ nowhere = λ e. omega (arith, index, c.if-next-eq16777215.false, e) in
    let key = c.key_at.ensures.place ∙ (ap (λ (s : Sizes). key_at s c.index-next.result) c.layout-layout.ensures.sizes
    ∙ ap (λ (x : ℕ). key_at c.args.table.now.sizes x) index) in
    let u = c.load.new.token.view in
    let link = c.link_at.ensures.place ∙
    (ap (λ (s : Sizes). link_at s c.index-next.result) c.layout-layout.ensures.sizes
    ∙ ap (λ (x : ℕ). link_at c.args.table.now.sizes x) index) in
    let s = edge_loaded c.requires.position.0 c.args.table.now c.args.token.now c.load-key.new.token c.load.new.token p
    c.load-key.result c.load.result _ _ c.requires.table c.load-key.ensures.table c.requires.number h some key link
    c.load-key.ensures.looked c.load.ensures.looked in
    ap (key_in u) index ∙ s.node.key_is

pub returns-clause-makes : goal.returns-clause-makes
returns-clause-makes c =
    let v = c.args.token.now.view in
    let p : EdgePositionValue = c.args.position in
    let h = c.requires.position.1 in
    let index : c.index-next.result ≡ index_of p.word = c.index-next.ensures.index ∙ ap index_of c.word.ensures.word in
    let some : index_of p.word ≢ nowhere = λ e. omega (arith, index, c.if-next-eq16777215.false, e) in
    let key = c.key_at.ensures.place ∙ (ap (λ (s : Sizes). key_at s c.index-next.result) c.layout-layout.ensures.sizes
    ∙ ap (λ (x : ℕ). key_at c.args.table.now.sizes x) index) in
    let u = c.load.new.token.view in
    let link = c.link_at.ensures.place ∙
    (ap (λ (s : Sizes). link_at s c.index-next.result) c.layout-layout.ensures.sizes
    ∙ ap (λ (x : ℕ). link_at c.args.table.now.sizes x) index) in
    let s = edge_loaded c.requires.position.0 c.args.table.now c.args.token.now c.load-key.new.token c.load.new.token p
    c.load-key.result c.load.result _ _ c.requires.table c.load-key.ensures.table c.requires.number h some key link
    c.load-key.ensures.looked c.load.ensures.looked in
    makes_chain v u c.edge_at-edge.new.token.view [] [] s.makes c.edge_at-edge.ensures.makes

pub returns-clause-stepped : goal.returns-clause-stepped
returns-clause-stepped c =
    let v = c.args.token.now.view in
    let p : EdgePositionValue = c.args.position in
    let h = c.requires.position.1 in
    let index : c.index-next.result ≡ index_of p.word = c.index-next.ensures.index ∙ ap index_of c.word.ensures.word in
    let some : index_of p.word ≢ nowhere = λ e. omega (arith, index, c.if-next-eq16777215.false, e) in
    let key = c.key_at.ensures.place ∙ (ap (λ (s : Sizes). key_at s c.index-next.result) c.layout-layout.ensures.sizes
    ∙ ap (λ (x : ℕ). key_at c.args.table.now.sizes x) index) in
    let u = c.load.new.token.view in
    let link = c.link_at.ensures.place ∙
    (ap (λ (s : Sizes). link_at s c.index-next.result) c.layout-layout.ensures.sizes
    ∙ ap (λ (x : ℕ). link_at c.args.table.now.sizes x) index) in
    let s = edge_loaded c.requires.position.0 c.args.table.now c.args.token.now c.load-key.new.token c.load.new.token p
    c.load-key.result c.load.result _ _ c.requires.table c.load-key.ensures.table c.requires.number h some key link
    c.load-key.ensures.looked c.load.ensures.looked in
    let source : c.position.inside.source ≡ p.source = ap (λ (q : EdgePositionValue). q.source) c.position.view_is in
    let live : mark_of c.load.result ≡ 0 = search rules in
    let w = c.edge_at-edge.new.token.view in
    let e = c.edge_at-edge.result in
    let life = c.edge_at-edge.ensures.life in
    let place : c.link_at-2.result ≡ link_at w.sizes (index_of p.word) = c.link_at-2.ensures.place
    ∙ (ap (λ (s : Sizes). link_at s c.index-next.result)
    (c.layout-layout.ensures.sizes ∙ sym c.edge_at-edge.ensures.table.sizes)
    ∙ ap (λ (x : ℕ). link_at w.sizes x) index) in
    let linked = subst (λ (y : Life). IsLinkOf u.front e.life y e.target e.key e.weight) source
    c.edge_at-edge.ensures.linked in
    let q : EdgePositionValue = record {
      source = c.position.inside.source;
      key = c.load-key.result;
      place = c.link_at-2.result;
      word = c.load.result;
      link = 0;
      moment = c.of-moment.result.value.view.front;
    } in
    let is : q ≡ record {
      source = p.source;
      key = c.load-key.result;
      place = link_at w.sizes (index_of p.word);
      word = c.load.result;
      link = 0;
      moment = u.front;
    } = λ i. record {
      source = source i;
      key = c.load-key.result;
      place = place i;
      word = c.load.result;
      link = 0;
      moment = (c.of-moment.ensures i).view.front;
    } in
    edge_stepped v u w p q c.requires.position.0 e c.load-key.result c.load.result c.requires.table.layout
    c.load.ensures.table.layout c.load.ensures.table.sound.kept h some s live c.edge_at-edge.ensures.makes
    (ap (λ (y : Life). y.index) life ∙ index) (ap (λ (y : Life). y.tag) life ∙ c.tag.ensures.tag)
    c.edge_at-edge.ensures.key linked is
