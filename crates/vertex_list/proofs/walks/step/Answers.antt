use Rattle.std.proofs.Common.{rules, arith, ap, ap₂, subst, sym, ◌∙◌, ◌≡◌, ◌≢◌, ◌<◌, ◌^◌, ℕ}
use Rattle.packed_link.specs.Link.{index_of, mark_of, nowhere}
use Rattle.packed_link.specs.Layout.{Sizes, key_at, link_at}
use Rattle.graph_table.specs.Tokens.{TokenValue}
use Rattle.vertex_list.specs.Positions.{PositionValue}
use Rattle.vertex_list.specs.Walks.{IsDeadStep}
use Rattle.vertex_list.proofs.WalksTell.{step_leads, seen, key_loaded_fits, dead_step, stepped}
use Rattle.vertex_list.proofs.walks.step.Goals as goal

pub key_at-requires : goal.key_at-requires
key_at-requires c =
    let v = c.args.token.now.view in
    let p : PositionValue = c.args.position in
    let h = c.requires.position.1 in
    let index : c.index-next.result ≡ index_of p.word = c.index-next.ensures.index ∙ ap index_of c.word.ensures.word in
    let some : index_of p.word ≢ nowhere = λ e. omega (arith, index, c.if-next-eq16777215.false, e) in
    let there = (step_leads c.requires.position.0 v p c.requires.table.layout h some).life.there in
    omega (
      arith,
      there,
      index,
      ap (λ (s : Sizes). s.nodes) c.requires.table.sizes,
      ap
          (λ (s : Sizes). s.nodes) c.layout-layout.ensures.sizes,
    )

pub overflow_cast-key : goal.overflow_cast-key
overflow_cast-key c =
    let v = c.args.token.now.view in
    let p : PositionValue = c.args.position in
    let h = c.requires.position.1 in
    let index : c.index-next.result ≡ index_of p.word = c.index-next.ensures.index ∙ ap index_of c.word.ensures.word in
    let some : index_of p.word ≢ nowhere = λ e. omega (arith, index, c.if-next-eq16777215.false, e) in
    let key = c.key_at.ensures.place ∙ (ap (λ (s : Sizes). key_at s c.index-next.result) c.layout-layout.ensures.sizes
    ∙ ap (λ (x : ℕ). key_at c.args.table.now.sizes x) index) in
    let key_in_view = key ∙ ap (λ (s : Sizes). key_at s (index_of p.word)) (sym c.requires.table.sizes) in
    let low : c.load-key.result < 2 ^ 32 =
    key_loaded_fits c.requires.position.0 v c.load-key.new.token.view p _ c.load-key.result c.requires.table.layout
    c.requires.number c.requires.table.sound h some key_in_view c.load-key.ensures.looked in
    omega (arith, low)

pub returns-then-marked-clause-stepped : goal.returns-then-marked-clause-stepped
returns-then-marked-clause-stepped c =
    let v = c.args.token.now.view in
    let p : PositionValue = c.args.position in
    let h = c.requires.position.1 in
    let index : c.index-next.result ≡ index_of p.word = c.index-next.ensures.index ∙ ap index_of c.word.ensures.word in
    let some : index_of p.word ≢ nowhere = λ e. omega (arith, index, c.if-next-eq16777215.false, e) in
    let key = c.key_at.ensures.place ∙ (ap (λ (s : Sizes). key_at s c.index-next.result) c.layout-layout.ensures.sizes
    ∙ ap (λ (x : ℕ). key_at c.args.table.now.sizes x) index) in
    let u = c.load.new.token.view in
    let link = c.link_at.ensures.place ∙
    (ap (λ (s : Sizes). link_at s c.index-next.result) c.layout-layout.ensures.sizes
    ∙ ap (λ (x : ℕ). link_at c.args.table.now.sizes x) index) in
    let s = seen c.requires.position.0 c.args.table.now c.args.token.now c.load-key.new.token c.load.new.token p
    c.load-key.result c.load.result _ _ c.requires.table c.load-key.ensures.table c.requires.number h some key link
    c.load-key.ensures.looked c.load.ensures.looked in
    subst (λ (r : PositionValue). IsDeadStep p v u (record r { link = c.load.result })) (sym c.position.view_is)
    (dead_step v u p c.requires.position.0 c.load-key.result c.load.result s (search rules))

pub returns-clause-stepped : goal.returns-clause-stepped
returns-clause-stepped c =
    let v = c.args.token.now.view in
    let p : PositionValue = c.args.position in
    let h = c.requires.position.1 in
    let index : c.index-next.result ≡ index_of p.word = c.index-next.ensures.index ∙ ap index_of c.word.ensures.word in
    let some : index_of p.word ≢ nowhere = λ e. omega (arith, index, c.if-next-eq16777215.false, e) in
    let key = c.key_at.ensures.place ∙ (ap (λ (s : Sizes). key_at s c.index-next.result) c.layout-layout.ensures.sizes
    ∙ ap (λ (x : ℕ). key_at c.args.table.now.sizes x) index) in
    let u = c.load.new.token.view in
    let link = c.link_at.ensures.place ∙
    (ap (λ (s : Sizes). link_at s c.index-next.result) c.layout-layout.ensures.sizes
    ∙ ap (λ (x : ℕ). link_at c.args.table.now.sizes x) index) in
    let s = seen c.requires.position.0 c.args.table.now c.args.token.now c.load-key.new.token c.load.new.token p
    c.load-key.result c.load.result _ _ c.requires.table c.load-key.ensures.table c.requires.number h some key link
    c.load-key.ensures.looked c.load.ensures.looked in
    let live : mark_of c.load.result ≡ 0 = search rules in
    let place : c.link_at-2.result ≡ link_at u.sizes (index_of p.word) = c.link_at-2.ensures.place
    ∙ (ap (λ (s : Sizes). link_at s c.index-next.result)
    (c.layout-layout.ensures.sizes ∙ sym c.load.ensures.table.sizes)
    ∙ ap (λ (x : ℕ). link_at u.sizes x) index) in
    let q : PositionValue = record {
      key = c.load-key.result;
      place = c.link_at-2.result;
      word = c.load.result;
      link = 0;
      moment =
          c.of-moment.result.value.view.front;
    } in
    let is : q ≡ record {
      key = c.load-key.result;
      place = link_at u.sizes (index_of p.word);
      word =
          c.load.result;
      link = 0;
      moment = u.front;
    } = ap₂
    (λ (x : ℕ) (t : TokenValue). record {
      key = c.load-key.result;
      place = x;
      word = c.load.result;
      link = 0;
      moment =
          t.view.front;
    }) place c.of-moment.ensures in
    stepped v u p q c.requires.position.0
    (record {
      index = c.index-next.result;
      tag =
          c.tag.result;
    }) c.load-key.result c.load.result c.requires.table.layout c.load.ensures.table.layout
    c.load.ensures.table.sound.kept h some s live index c.tag.ensures.tag is
