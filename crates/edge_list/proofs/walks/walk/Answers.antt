use Rattle.std.proofs.Common.{rules, arith, ap, sym, subst, ◌∙◌, ◌≡◌, ◌≢◌, ◌<◌, ◌+◌, ◌-◌, false, [], ℕ}
use Rattle.packed_link.specs.Link.{index_of, mark_of, nowhere}
use Rattle.packed_link.specs.Layout.{Sizes, key_at, link_at}
use Rattle.packed_link.specs.declared.link.Life.{Life}
use Rattle.core_journal.proofs.Lists.{prefix_trans}
use Rattle.core_kept.specs.Facts.{IsLinkOf}
use Rattle.core_rule.specs.Fronts.{MetEdge, key_in}
use Rattle.core_stretches.proofs.MakesAddUp.{makes_chain}
use Rattle.core_stretches.proofs.WordsLeadOn.{low_at}
use Rattle.graph_table.specs.Tokens.{TokenValue}
use Rattle.edge_list.specs.EdgePositions.{EdgePositionValue, IsEdgePosition}
use Rattle.edge_list.specs.EdgeWalks.{IsEdgeDead}
use Rattle.edge_list.proofs.EdgePositionsGoOn.{still_numbered}
use Rattle.edge_list.proofs.EdgeWalksTell.{IsOnWalk, walk_leads, edge_loaded, edge_gone_at_end, edge_gone_before}
use Rattle.edge_list.proofs.EdgeWalksTell.{edge_dead_end, edge_here, edge_nearer, loaded_met}
use Rattle.edge_list.proofs.walks.walk.Goals as goal

pub returns-then-next-eq16777215-clause-found : goal.returns-then-next-eq16777215-clause-found
returns-then-next-eq16777215-clause-found c =
    let i = c.loop-layout.invariant in
    let w = c.loop-layout.token.view in
    let p : EdgePositionValue = c.loop-layout.position in
    let on : IsOnWalk c.args.position p = record { source_is = i.source; key_is = i.key; since = i.since } in
    let index : c.index-next.result ≡ index_of p.word = c.index-next.ensures.index ∙ ap index_of c.word.ensures.word in
    edge_gone_at_end w c.args.position p on i.of.layout i.at (omega (arith, index, c.if-next-eq16777215.true))

pub key_at-requires : goal.key_at-requires
key_at-requires c =
    let i = c.loop-layout.invariant in
    let w = c.loop-layout.token.view in
    let p : EdgePositionValue = c.loop-layout.position in
    let on : IsOnWalk c.args.position p = record { source_is = i.source; key_is = i.key; since = i.since } in
    let index : c.index-next.result ≡ index_of p.word = c.index-next.ensures.index ∙ ap index_of c.word.ensures.word in
    let some : index_of p.word ≢ nowhere = λ e. omega (arith, index, c.if-next-eq16777215.false, e) in
    let h = (walk_leads w p i.of.layout i.at some).1.life.there in
    omega (
      arith,
      h,
      index,
      ap (λ (s : Sizes). s.nodes) i.of.sizes,
      ap (λ (s : Sizes). s.nodes) c.layout-layout.ensures.sizes,
    )

pub returns-then-marked-clause-makes : goal.returns-then-marked-clause-makes
returns-then-marked-clause-makes c =
    let i = c.loop-layout.invariant in
    let w = c.loop-layout.token.view in
    let p : EdgePositionValue = c.loop-layout.position in
    let on : IsOnWalk c.args.position p = record { source_is = i.source; key_is = i.key; since = i.since } in
    let index : c.index-next.result ≡ index_of p.word = c.index-next.ensures.index ∙ ap index_of c.word.ensures.word in
    let some : index_of p.word ≢ nowhere = λ e. omega (arith, index, c.if-next-eq16777215.false, e) in
    let u = c.load-link.new.token.view in
    let key = c.key_at.ensures.place ∙ (ap (λ (s : Sizes). key_at s c.index-next.result) c.layout-layout.ensures.sizes
    ∙ ap (λ (x : ℕ). key_at c.args.table.now.sizes x) index) in
    let link = c.link_at.ensures.place ∙
    (ap (λ (s : Sizes). link_at s c.index-next.result) c.layout-layout.ensures.sizes
    ∙ ap (λ (x : ℕ). link_at c.args.table.now.sizes x) index) in
    let s = edge_loaded false c.args.table.now c.loop-layout.token c.load-found.new.token c.load-link.new.token p
    c.load-found.result c.load-link.result _ _ i.of c.load-found.ensures.table
    (still_numbered c.args.token.now.view w [] i.makes c.requires.number) i.at some key link
    c.load-found.ensures.looked c.load-link.ensures.looked in
    makes_chain c.args.token.now.view w u [] [] i.makes s.makes

pub returns-then-found-from-clause-makes : goal.returns-then-found-from-clause-makes
returns-then-found-from-clause-makes c =
    let i = c.loop-layout.invariant in
    let w = c.loop-layout.token.view in
    let p : EdgePositionValue = c.loop-layout.position in
    let on : IsOnWalk c.args.position p = record { source_is = i.source; key_is = i.key; since = i.since } in
    let index : c.index-next.result ≡ index_of p.word = c.index-next.ensures.index ∙ ap index_of c.word.ensures.word in
    let some : index_of p.word ≢ nowhere = λ e. omega (arith, index, c.if-next-eq16777215.false, e) in
    let u = c.load-link.new.token.view in
    let key = c.key_at.ensures.place ∙ (ap (λ (s : Sizes). key_at s c.index-next.result) c.layout-layout.ensures.sizes
    ∙ ap (λ (x : ℕ). key_at c.args.table.now.sizes x) index) in
    let link = c.link_at.ensures.place ∙
    (ap (λ (s : Sizes). link_at s c.index-next.result) c.layout-layout.ensures.sizes
    ∙ ap (λ (x : ℕ). link_at c.args.table.now.sizes x) index) in
    let s = edge_loaded false c.args.table.now c.loop-layout.token c.load-found.new.token c.load-link.new.token p
    c.load-found.result c.load-link.result _ _ i.of c.load-found.ensures.table
    (still_numbered c.args.token.now.view w [] i.makes c.requires.number) i.at some key link
    c.load-found.ensures.looked c.load-link.ensures.looked in
    makes_chain c.args.token.now.view w u [] [] i.makes s.makes

pub returns-then-marked-clause-found : goal.returns-then-marked-clause-found
returns-then-marked-clause-found c =
    let i = c.loop-layout.invariant in
    let w = c.loop-layout.token.view in
    let p : EdgePositionValue = c.loop-layout.position in
    let on : IsOnWalk c.args.position p = record { source_is = i.source; key_is = i.key; since = i.since } in
    let index : c.index-next.result ≡ index_of p.word = c.index-next.ensures.index ∙ ap index_of c.word.ensures.word in
    let some : index_of p.word ≢ nowhere = λ e. omega (arith, index, c.if-next-eq16777215.false, e) in
    let u = c.load-link.new.token.view in
    let key = c.key_at.ensures.place ∙ (ap (λ (s : Sizes). key_at s c.index-next.result) c.layout-layout.ensures.sizes
    ∙ ap (λ (x : ℕ). key_at c.args.table.now.sizes x) index) in
    let link = c.link_at.ensures.place ∙
    (ap (λ (s : Sizes). link_at s c.index-next.result) c.layout-layout.ensures.sizes
    ∙ ap (λ (x : ℕ). link_at c.args.table.now.sizes x) index) in
    let s = edge_loaded false c.args.table.now c.loop-layout.token c.load-found.new.token c.load-link.new.token p
    c.load-found.result c.load-link.result _ _ i.of c.load-found.ensures.table
    (still_numbered c.args.token.now.view w [] i.makes c.requires.number) i.at some key link
    c.load-found.ensures.looked c.load-link.ensures.looked in
    subst (λ (q : EdgePositionValue). IsEdgeDead c.args.position u (record q { link = c.load-link.result }))
    (sym c.position.view_is)
    (edge_dead_end w u c.args.position p c.load-found.result c.load-link.result on s (search rules))

pub returns-then-found-from-clause-found : goal.returns-then-found-from-clause-found
returns-then-found-from-clause-found c =
    let i = c.loop-layout.invariant in
    let w = c.loop-layout.token.view in
    let p : EdgePositionValue = c.loop-layout.position in
    let on : IsOnWalk c.args.position p = record { source_is = i.source; key_is = i.key; since = i.since } in
    let index : c.index-next.result ≡ index_of p.word = c.index-next.ensures.index ∙ ap index_of c.word.ensures.word in
    let some : index_of p.word ≢ nowhere = λ e. omega (arith, index, c.if-next-eq16777215.false, e) in
    let u = c.load-link.new.token.view in
    let key = c.key_at.ensures.place ∙ (ap (λ (s : Sizes). key_at s c.index-next.result) c.layout-layout.ensures.sizes
    ∙ ap (λ (x : ℕ). key_at c.args.table.now.sizes x) index) in
    let link = c.link_at.ensures.place ∙
    (ap (λ (s : Sizes). link_at s c.index-next.result) c.layout-layout.ensures.sizes
    ∙ ap (λ (x : ℕ). link_at c.args.table.now.sizes x) index) in
    let s = edge_loaded false c.args.table.now c.loop-layout.token c.load-found.new.token c.load-link.new.token p
    c.load-found.result c.load-link.result _ _ i.of c.load-found.ensures.table
    (still_numbered c.args.token.now.view w [] i.makes c.requires.number) i.at some key link
    c.load-found.ensures.looked c.load-link.ensures.looked in
    let own : c.position.inside.key ≡ p.key = ap (λ (q : EdgePositionValue). q.key) c.position.view_is in
    let from : c.position.inside.source ≡ p.source = ap (λ (q : EdgePositionValue). q.source) c.position.view_is in
    edge_gone_before w u c.args.position p c.load-found.result c.load-link.result on c.load-link.ensures.table.layout s
    (omega (arith, c.if-found-from.true, c.from.ensures, own))

pub edge_at-edge-requires-clause-edge : goal.edge_at-edge-requires-clause-edge
edge_at-edge-requires-clause-edge c =
    let i = c.loop-layout.invariant in
    let w = c.loop-layout.token.view in
    let p : EdgePositionValue = c.loop-layout.position in
    let on : IsOnWalk c.args.position p = record { source_is = i.source; key_is = i.key; since = i.since } in
    let index : c.index-next.result ≡ index_of p.word = c.index-next.ensures.index ∙ ap index_of c.word.ensures.word in
    let some : index_of p.word ≢ nowhere = λ e. omega (arith, index, c.if-next-eq16777215.false, e) in
    let u = c.load-link.new.token.view in
    let key = c.key_at.ensures.place ∙ (ap (λ (s : Sizes). key_at s c.index-next.result) c.layout-layout.ensures.sizes
    ∙ ap (λ (x : ℕ). key_at c.args.table.now.sizes x) index) in
    let link = c.link_at.ensures.place ∙
    (ap (λ (s : Sizes). link_at s c.index-next.result) c.layout-layout.ensures.sizes
    ∙ ap (λ (x : ℕ). link_at c.args.table.now.sizes x) index) in
    let s = edge_loaded false c.args.table.now c.loop-layout.token c.load-found.new.token c.load-link.new.token p
    c.load-found.result c.load-link.result _ _ i.of c.load-found.ensures.table
    (still_numbered c.args.token.now.view w [] i.makes c.requires.number) i.at some key link
    c.load-found.ensures.looked c.load-link.ensures.looked in
    let own : c.position.inside.key ≡ p.key = ap (λ (q : EdgePositionValue). q.key) c.position.view_is in
    let from : c.position.inside.source ≡ p.source = ap (λ (q : EdgePositionValue). q.source) c.position.view_is in
    subst (λ (y : Life). MetEdge u y (record { index = c.index-next.result; tag = c.tag.result })) (sym from)
    (loaded_met p.source u (index_of p.word) c.load-found.result c.load-link.result c.index-next.result c.tag.result
    c.load-link.ensures.table.layout c.load-link.ensures.table.sound.kept s.node index c.tag.ensures.tag)

pub edge_at-edge-requires-clause-key : goal.edge_at-edge-requires-clause-key
edge_at-edge-requires-clause-key c =
    let i = c.loop-layout.invariant in
    let w = c.loop-layout.token.view in
    let p : EdgePositionValue = c.loop-layout.position in
    let on : IsOnWalk c.args.position p = record { source_is = i.source; key_is = i.key; since = i.since } in
    let index : c.index-next.result ≡ index_of p.word = c.index-next.ensures.index ∙ ap index_of c.word.ensures.word in
    let some : index_of p.word ≢ nowhere = λ e. omega (arith, index, c.if-next-eq16777215.false, e) in
    let u = c.load-link.new.token.view in
    let key = c.key_at.ensures.place ∙ (ap (λ (s : Sizes). key_at s c.index-next.result) c.layout-layout.ensures.sizes
    ∙ ap (λ (x : ℕ). key_at c.args.table.now.sizes x) index) in
    let link = c.link_at.ensures.place ∙
    (ap (λ (s : Sizes). link_at s c.index-next.result) c.layout-layout.ensures.sizes
    ∙ ap (λ (x : ℕ). link_at c.args.table.now.sizes x) index) in
    let s = edge_loaded false c.args.table.now c.loop-layout.token c.load-found.new.token c.load-link.new.token p
    c.load-found.result c.load-link.result _ _ i.of c.load-found.ensures.table
    (still_numbered c.args.token.now.view w [] i.makes c.requires.number) i.at some key link
    c.load-found.ensures.looked c.load-link.ensures.looked in
    ap (key_in u) index ∙ (s.node.key_is ∙ (c.if-found-from-2.true ∙ c.from-in-loop-layout.ensures))

pub returns-then-found-from-2-clause-makes : goal.returns-then-found-from-2-clause-makes
returns-then-found-from-2-clause-makes c =
    let i = c.loop-layout.invariant in
    let w = c.loop-layout.token.view in
    let p : EdgePositionValue = c.loop-layout.position in
    let on : IsOnWalk c.args.position p = record { source_is = i.source; key_is = i.key; since = i.since } in
    let index : c.index-next.result ≡ index_of p.word = c.index-next.ensures.index ∙ ap index_of c.word.ensures.word in
    let some : index_of p.word ≢ nowhere = λ e. omega (arith, index, c.if-next-eq16777215.false, e) in
    let u = c.load-link.new.token.view in
    let key = c.key_at.ensures.place ∙ (ap (λ (s : Sizes). key_at s c.index-next.result) c.layout-layout.ensures.sizes
    ∙ ap (λ (x : ℕ). key_at c.args.table.now.sizes x) index) in
    let link = c.link_at.ensures.place ∙
    (ap (λ (s : Sizes). link_at s c.index-next.result) c.layout-layout.ensures.sizes
    ∙ ap (λ (x : ℕ). link_at c.args.table.now.sizes x) index) in
    let s = edge_loaded false c.args.table.now c.loop-layout.token c.load-found.new.token c.load-link.new.token p
    c.load-found.result c.load-link.result _ _ i.of c.load-found.ensures.table
    (still_numbered c.args.token.now.view w [] i.makes c.requires.number) i.at some key link
    c.load-found.ensures.looked c.load-link.ensures.looked in
    makes_chain c.args.token.now.view u c.edge_at-edge.new.token.view [] []
    (makes_chain c.args.token.now.view w u [] [] i.makes s.makes) c.edge_at-edge.ensures.makes

pub returns-then-found-from-2-clause-found : goal.returns-then-found-from-2-clause-found
returns-then-found-from-2-clause-found c =
    let i = c.loop-layout.invariant in
    let w = c.loop-layout.token.view in
    let p : EdgePositionValue = c.loop-layout.position in
    let on : IsOnWalk c.args.position p = record { source_is = i.source; key_is = i.key; since = i.since } in
    let index : c.index-next.result ≡ index_of p.word = c.index-next.ensures.index ∙ ap index_of c.word.ensures.word in
    let some : index_of p.word ≢ nowhere = λ e. omega (arith, index, c.if-next-eq16777215.false, e) in
    let u = c.load-link.new.token.view in
    let key = c.key_at.ensures.place ∙ (ap (λ (s : Sizes). key_at s c.index-next.result) c.layout-layout.ensures.sizes
    ∙ ap (λ (x : ℕ). key_at c.args.table.now.sizes x) index) in
    let link = c.link_at.ensures.place ∙
    (ap (λ (s : Sizes). link_at s c.index-next.result) c.layout-layout.ensures.sizes
    ∙ ap (λ (x : ℕ). link_at c.args.table.now.sizes x) index) in
    let s = edge_loaded false c.args.table.now c.loop-layout.token c.load-found.new.token c.load-link.new.token p
    c.load-found.result c.load-link.result _ _ i.of c.load-found.ensures.table
    (still_numbered c.args.token.now.view w [] i.makes c.requires.number) i.at some key link
    c.load-found.ensures.looked c.load-link.ensures.looked in
    let live : mark_of c.load-link.result ≡ 0 = search rules in
    let own : c.position.inside.key ≡ p.key = ap (λ (q : EdgePositionValue). q.key) c.position.view_is in
    let from : c.position.inside.source ≡ p.source = ap (λ (q : EdgePositionValue). q.source) c.position.view_is in
    let e = c.edge_at-edge.result in
    let life = c.edge_at-edge.ensures.life in
    let is : c.load-found.result ≡ p.key = omega (arith, c.if-found-from-2.true, c.from-in-loop-layout.ensures, own) in
    edge_here w u c.edge_at-edge.new.token.view c.args.position p c.load-found.result c.load-link.result
    (record { edge = e; moment = c.of-moment.result }) on c.load-link.ensures.table.layout
    c.load-link.ensures.table.sound.kept s live is c.edge_at-edge.ensures.makes
    (ap (λ (y : Life). y.index) life ∙ index) (ap (λ (y : Life). y.tag) life ∙ c.tag.ensures.tag)
    (c.edge_at-edge.ensures.key ∙ own)
    (subst (λ (y : Life). IsLinkOf u.front e.life y e.target e.key e.weight) from c.edge_at-edge.ensures.linked)
    (ap (λ (t : TokenValue). t.view.front) c.of-moment.ensures)

pub loop-layout-smaller : goal.loop-layout-smaller
loop-layout-smaller c =
    let i = c.loop-layout.invariant in
    let w = c.loop-layout.token.view in
    let p : EdgePositionValue = c.loop-layout.position in
    let on : IsOnWalk c.args.position p = record { source_is = i.source; key_is = i.key; since = i.since } in
    let index : c.index-next.result ≡ index_of p.word = c.index-next.ensures.index ∙ ap index_of c.word.ensures.word in
    let some : index_of p.word ≢ nowhere = λ e. omega (arith, index, c.if-next-eq16777215.false, e) in
    let u = c.load-link.new.token.view in
    let key = c.key_at.ensures.place ∙ (ap (λ (s : Sizes). key_at s c.index-next.result) c.layout-layout.ensures.sizes
    ∙ ap (λ (x : ℕ). key_at c.args.table.now.sizes x) index) in
    let link = c.link_at.ensures.place ∙
    (ap (λ (s : Sizes). link_at s c.index-next.result) c.layout-layout.ensures.sizes
    ∙ ap (λ (x : ℕ). link_at c.args.table.now.sizes x) index) in
    let s = edge_loaded false c.args.table.now c.loop-layout.token c.load-found.new.token c.load-link.new.token p
    c.load-found.result c.load-link.result _ _ i.of c.load-found.ensures.table
    (still_numbered c.args.token.now.view w [] i.makes c.requires.number) i.at some key link
    c.load-found.ensures.looked c.load-link.ensures.looked in
    let live : mark_of c.load-link.result ≡ 0 = search rules in
    let own : c.position.inside.key ≡ p.key = ap (λ (q : EdgePositionValue). q.key) c.position.view_is in
    let from : c.position.inside.source ≡ p.source = ap (λ (q : EdgePositionValue). q.source) c.position.view_is in
    let place = c.link_at-place.ensures.place
    ∙ (ap (λ (s : Sizes). link_at s c.index-next.result)
    (c.layout-layout.ensures.sizes ∙ sym c.load-link.ensures.table.sizes)
    ∙ ap (λ (x : ℕ). link_at u.sizes x) index) in
    let n = edge_nearer w u p c.load-found.result c.load-link.result c.link_at-place.result
    c.of-moment.result.value.view.front i.of.layout c.load-link.ensures.table.layout
    c.load-link.ensures.table.sound.kept i.at some s live
    (omega (arith, c.if-found-from.false, c.if-found-from-2.false, c.from.ensures, c.from-in-loop-layout.ensures, own))
    place (ap (λ (t : TokenValue). t.view.front) c.of-moment.ensures) in
    let at = c.of-moment.result.value.view.front in
    subst (λ (k : ℕ). k + 1 - low_at c.args.table.now.sizes at c.link_at-place.result
    < k + 1 - low_at c.args.table.now.sizes p.moment p.place) i.key
    (subst (λ (y : Sizes). p.key + 1 - low_at y at c.link_at-place.result < p.key + 1 - low_at y p.moment p.place)
    c.load-link.ensures.table.sizes n.nearer)

pub loop-layout-preserved : goal.loop-layout-preserved
loop-layout-preserved c =
    let i = c.loop-layout.invariant in
    let w = c.loop-layout.token.view in
    let p : EdgePositionValue = c.loop-layout.position in
    let on : IsOnWalk c.args.position p = record { source_is = i.source; key_is = i.key; since = i.since } in
    let index : c.index-next.result ≡ index_of p.word = c.index-next.ensures.index ∙ ap index_of c.word.ensures.word in
    let some : index_of p.word ≢ nowhere = λ e. omega (arith, index, c.if-next-eq16777215.false, e) in
    let u = c.load-link.new.token.view in
    let key = c.key_at.ensures.place ∙ (ap (λ (s : Sizes). key_at s c.index-next.result) c.layout-layout.ensures.sizes
    ∙ ap (λ (x : ℕ). key_at c.args.table.now.sizes x) index) in
    let link = c.link_at.ensures.place ∙
    (ap (λ (s : Sizes). link_at s c.index-next.result) c.layout-layout.ensures.sizes
    ∙ ap (λ (x : ℕ). link_at c.args.table.now.sizes x) index) in
    let s = edge_loaded false c.args.table.now c.loop-layout.token c.load-found.new.token c.load-link.new.token p
    c.load-found.result c.load-link.result _ _ i.of c.load-found.ensures.table
    (still_numbered c.args.token.now.view w [] i.makes c.requires.number) i.at some key link
    c.load-found.ensures.looked c.load-link.ensures.looked in
    let live : mark_of c.load-link.result ≡ 0 = search rules in
    let own : c.position.inside.key ≡ p.key = ap (λ (q : EdgePositionValue). q.key) c.position.view_is in
    let from : c.position.inside.source ≡ p.source = ap (λ (q : EdgePositionValue). q.source) c.position.view_is in
    let place = c.link_at-place.ensures.place
    ∙ (ap (λ (s : Sizes). link_at s c.index-next.result)
    (c.layout-layout.ensures.sizes ∙ sym c.load-link.ensures.table.sizes)
    ∙ ap (λ (x : ℕ). link_at u.sizes x) index) in
    let n = edge_nearer w u p c.load-found.result c.load-link.result c.link_at-place.result
    c.of-moment.result.value.view.front i.of.layout c.load-link.ensures.table.layout
    c.load-link.ensures.table.sound.kept i.at some s live
    (omega (arith, c.if-found-from.false, c.if-found-from-2.false, c.from.ensures, c.from-in-loop-layout.ensures, own))
    place (ap (λ (t : TokenValue). t.view.front) c.of-moment.ensures) in
    record {
      of = c.load-link.ensures.table;
      makes = makes_chain c.args.token.now.view w u [] [] i.makes s.makes;
      source = from ∙ i.source;
      key = own ∙ i.key;
      since = prefix_trans c.args.position.moment p.moment c.of-moment.result.value.view.front i.since n.since;
      at = subst (λ (q : EdgePositionValue). IsEdgePosition false u (record q {
        place = c.link_at-place.result;
        word = c.load-link.result;
        moment = c.of-moment.result.value.view.front;
      })) (sym c.position.view_is) n.position;
    }
