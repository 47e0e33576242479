use Rattle.std.proofs.Common.{rules, refl, arith, ap, sym, subst, ◌∙◌, ◌≡◌, ◌≢◌, ◌<◌, ◌+◌, ◌-◌, false, [], ℕ}
use Rattle.packed_link.specs.Link.{index_of, mark_of, nowhere}
use Rattle.packed_link.specs.Layout.{Sizes, key_at, link_at}
use Rattle.core_journal.proofs.Lists.{prefix_trans}
use Rattle.core_stretches.proofs.MakesAddUp.{makes_chain}
use Rattle.core_stretches.proofs.WordsLeadOn.{low_at}
use Rattle.graph_table.specs.Tokens.{TokenValue}
use Rattle.vertex_list.specs.Positions.{PositionValue}
use Rattle.vertex_list.proofs.PositionsGoOn.{is_numbered}
use Rattle.vertex_list.proofs.WalksTell.{walk_leads, seen, gone_at_end, gone_before, dead_end, found_here, goes_nearer}
use Rattle.vertex_list.proofs.walks.walk.Goals as goal

pub returns-then-next-eq16777215-clause-found : goal.returns-then-next-eq16777215-clause-found
returns-then-next-eq16777215-clause-found c =
    let i = c.loop-layout.invariant in
    let w = c.loop-layout.token.view in
    let p : PositionValue = record {
      key = c.args.position.key;
      place = c.loop-layout.place;
      word =
          c.loop-layout.word;
      link = 0;
      moment = c.loop-layout.moment.value.view.front;
    } in
    let same = ap (λ (q : PositionValue). q.key) c.position.view_is in
    gone_at_end w c.args.position p c.position.inside.key refl same i.of.layout i.since i.at
    (omega (arith, c.index-next.ensures.index, c.if-next-eq16777215.true))

pub key_at-requires : goal.key_at-requires
key_at-requires c =
    let i = c.loop-layout.invariant in
    let w = c.loop-layout.token.view in
    let p : PositionValue = record {
      key = c.args.position.key;
      place = c.loop-layout.place;
      word =
          c.loop-layout.word;
      link = 0;
      moment = c.loop-layout.moment.value.view.front;
    } in
    let same = ap (λ (q : PositionValue). q.key) c.position.view_is in
    let some : index_of p.word ≢ nowhere = λ e. omega
    (arith, c.index-next.ensures.index, c.if-next-eq16777215.false, e) in
    let h = (walk_leads w p i.of.layout i.at some).met.life.there in
    omega (
      arith,
      h,
      c.index-next.ensures.index,
      ap (λ (s : Sizes). s.nodes) i.of.sizes,
      ap
          (λ (s : Sizes). s.nodes) c.layout-layout.ensures.sizes,
    )

pub returns-then-marked-clause-makes : goal.returns-then-marked-clause-makes
returns-then-marked-clause-makes c =
    let i = c.loop-layout.invariant in
    let w = c.loop-layout.token.view in
    let p : PositionValue = record {
      key = c.args.position.key;
      place = c.loop-layout.place;
      word =
          c.loop-layout.word;
      link = 0;
      moment = c.loop-layout.moment.value.view.front;
    } in
    let same = ap (λ (q : PositionValue). q.key) c.position.view_is in
    let some : index_of p.word ≢ nowhere = λ e. omega
    (arith, c.index-next.ensures.index, c.if-next-eq16777215.false, e) in
    let u = c.load-link.new.token.view in
    let key = c.key_at.ensures.place ∙ (ap (λ (s : Sizes). key_at s c.index-next.result) c.layout-layout.ensures.sizes
    ∙ ap (λ (x : ℕ). key_at c.args.table.now.sizes x) c.index-next.ensures.index) in
    let link = c.link_at.ensures.place ∙
    (ap (λ (s : Sizes). link_at s c.index-next.result) c.layout-layout.ensures.sizes
    ∙ ap (λ (x : ℕ). link_at c.args.table.now.sizes x) c.index-next.ensures.index) in
    let s = seen false c.args.table.now c.loop-layout.token c.load-found.new.token c.load-link.new.token p
    c.load-found.result c.load-link.result _ _ i.of c.load-found.ensures.table
    (is_numbered c.args.token.now.view w [] i.makes c.requires.number) i.at some key link
    c.load-found.ensures.looked c.load-link.ensures.looked in
    makes_chain c.args.token.now.view w u [] [] i.makes s.makes

pub returns-then-found-from-clause-makes : goal.returns-then-found-from-clause-makes
returns-then-found-from-clause-makes c =
    let i = c.loop-layout.invariant in
    let w = c.loop-layout.token.view in
    let p : PositionValue = record {
      key = c.args.position.key;
      place = c.loop-layout.place;
      word =
          c.loop-layout.word;
      link = 0;
      moment = c.loop-layout.moment.value.view.front;
    } in
    let same = ap (λ (q : PositionValue). q.key) c.position.view_is in
    let some : index_of p.word ≢ nowhere = λ e. omega
    (arith, c.index-next.ensures.index, c.if-next-eq16777215.false, e) in
    let u = c.load-link.new.token.view in
    let key = c.key_at.ensures.place ∙ (ap (λ (s : Sizes). key_at s c.index-next.result) c.layout-layout.ensures.sizes
    ∙ ap (λ (x : ℕ). key_at c.args.table.now.sizes x) c.index-next.ensures.index) in
    let link = c.link_at.ensures.place ∙
    (ap (λ (s : Sizes). link_at s c.index-next.result) c.layout-layout.ensures.sizes
    ∙ ap (λ (x : ℕ). link_at c.args.table.now.sizes x) c.index-next.ensures.index) in
    let s = seen false c.args.table.now c.loop-layout.token c.load-found.new.token c.load-link.new.token p
    c.load-found.result c.load-link.result _ _ i.of c.load-found.ensures.table
    (is_numbered c.args.token.now.view w [] i.makes c.requires.number) i.at some key link
    c.load-found.ensures.looked c.load-link.ensures.looked in
    makes_chain c.args.token.now.view w u [] [] i.makes s.makes

pub returns-then-found-from-2-clause-makes : goal.returns-then-found-from-2-clause-makes
returns-then-found-from-2-clause-makes c =
    let i = c.loop-layout.invariant in
    let w = c.loop-layout.token.view in
    let p : PositionValue = record {
      key = c.args.position.key;
      place = c.loop-layout.place;
      word =
          c.loop-layout.word;
      link = 0;
      moment = c.loop-layout.moment.value.view.front;
    } in
    let same = ap (λ (q : PositionValue). q.key) c.position.view_is in
    let some : index_of p.word ≢ nowhere = λ e. omega
    (arith, c.index-next.ensures.index, c.if-next-eq16777215.false, e) in
    let u = c.load-link.new.token.view in
    let key = c.key_at.ensures.place ∙ (ap (λ (s : Sizes). key_at s c.index-next.result) c.layout-layout.ensures.sizes
    ∙ ap (λ (x : ℕ). key_at c.args.table.now.sizes x) c.index-next.ensures.index) in
    let link = c.link_at.ensures.place ∙
    (ap (λ (s : Sizes). link_at s c.index-next.result) c.layout-layout.ensures.sizes
    ∙ ap (λ (x : ℕ). link_at c.args.table.now.sizes x) c.index-next.ensures.index) in
    let s = seen false c.args.table.now c.loop-layout.token c.load-found.new.token c.load-link.new.token p
    c.load-found.result c.load-link.result _ _ i.of c.load-found.ensures.table
    (is_numbered c.args.token.now.view w [] i.makes c.requires.number) i.at some key link
    c.load-found.ensures.looked c.load-link.ensures.looked in
    makes_chain c.args.token.now.view w u [] [] i.makes s.makes

pub returns-then-marked-clause-found : goal.returns-then-marked-clause-found
returns-then-marked-clause-found c =
    let i = c.loop-layout.invariant in
    let w = c.loop-layout.token.view in
    let p : PositionValue = record {
      key = c.args.position.key;
      place = c.loop-layout.place;
      word =
          c.loop-layout.word;
      link = 0;
      moment = c.loop-layout.moment.value.view.front;
    } in
    let same = ap (λ (q : PositionValue). q.key) c.position.view_is in
    let some : index_of p.word ≢ nowhere = λ e. omega
    (arith, c.index-next.ensures.index, c.if-next-eq16777215.false, e) in
    let u = c.load-link.new.token.view in
    let key = c.key_at.ensures.place ∙ (ap (λ (s : Sizes). key_at s c.index-next.result) c.layout-layout.ensures.sizes
    ∙ ap (λ (x : ℕ). key_at c.args.table.now.sizes x) c.index-next.ensures.index) in
    let link = c.link_at.ensures.place ∙
    (ap (λ (s : Sizes). link_at s c.index-next.result) c.layout-layout.ensures.sizes
    ∙ ap (λ (x : ℕ). link_at c.args.table.now.sizes x) c.index-next.ensures.index) in
    let s = seen false c.args.table.now c.loop-layout.token c.load-found.new.token c.load-link.new.token p
    c.load-found.result c.load-link.result _ _ i.of c.load-found.ensures.table
    (is_numbered c.args.token.now.view w [] i.makes c.requires.number) i.at some key link
    c.load-found.ensures.looked c.load-link.ensures.looked in
    dead_end w u c.args.position p c.position.inside.key c.load-found.result c.load-link.result refl same i.since s
    (search rules)

pub returns-then-found-from-clause-found : goal.returns-then-found-from-clause-found
returns-then-found-from-clause-found c =
    let i = c.loop-layout.invariant in
    let w = c.loop-layout.token.view in
    let p : PositionValue = record {
      key = c.args.position.key;
      place = c.loop-layout.place;
      word =
          c.loop-layout.word;
      link = 0;
      moment = c.loop-layout.moment.value.view.front;
    } in
    let same = ap (λ (q : PositionValue). q.key) c.position.view_is in
    let some : index_of p.word ≢ nowhere = λ e. omega
    (arith, c.index-next.ensures.index, c.if-next-eq16777215.false, e) in
    let u = c.load-link.new.token.view in
    let key = c.key_at.ensures.place ∙ (ap (λ (s : Sizes). key_at s c.index-next.result) c.layout-layout.ensures.sizes
    ∙ ap (λ (x : ℕ). key_at c.args.table.now.sizes x) c.index-next.ensures.index) in
    let link = c.link_at.ensures.place ∙
    (ap (λ (s : Sizes). link_at s c.index-next.result) c.layout-layout.ensures.sizes
    ∙ ap (λ (x : ℕ). link_at c.args.table.now.sizes x) c.index-next.ensures.index) in
    let s = seen false c.args.table.now c.loop-layout.token c.load-found.new.token c.load-link.new.token p
    c.load-found.result c.load-link.result _ _ i.of c.load-found.ensures.table
    (is_numbered c.args.token.now.view w [] i.makes c.requires.number) i.at some key link
    c.load-found.ensures.looked c.load-link.ensures.looked in
    gone_before w u c.args.position p c.position.inside.key c.load-found.result c.load-link.result refl same
    c.load-link.ensures.table.layout i.since s (omega (arith, c.if-found-from.true, c.from.ensures, same))

pub returns-then-found-from-2-clause-found : goal.returns-then-found-from-2-clause-found
returns-then-found-from-2-clause-found c =
    let i = c.loop-layout.invariant in
    let w = c.loop-layout.token.view in
    let p : PositionValue = record {
      key = c.args.position.key;
      place = c.loop-layout.place;
      word =
          c.loop-layout.word;
      link = 0;
      moment = c.loop-layout.moment.value.view.front;
    } in
    let same = ap (λ (q : PositionValue). q.key) c.position.view_is in
    let some : index_of p.word ≢ nowhere = λ e. omega
    (arith, c.index-next.ensures.index, c.if-next-eq16777215.false, e) in
    let u = c.load-link.new.token.view in
    let key = c.key_at.ensures.place ∙ (ap (λ (s : Sizes). key_at s c.index-next.result) c.layout-layout.ensures.sizes
    ∙ ap (λ (x : ℕ). key_at c.args.table.now.sizes x) c.index-next.ensures.index) in
    let link = c.link_at.ensures.place ∙
    (ap (λ (s : Sizes). link_at s c.index-next.result) c.layout-layout.ensures.sizes
    ∙ ap (λ (x : ℕ). link_at c.args.table.now.sizes x) c.index-next.ensures.index) in
    let s = seen false c.args.table.now c.loop-layout.token c.load-found.new.token c.load-link.new.token p
    c.load-found.result c.load-link.result _ _ i.of c.load-found.ensures.table
    (is_numbered c.args.token.now.view w [] i.makes c.requires.number) i.at some key link
    c.load-found.ensures.looked c.load-link.ensures.looked in
    let live : mark_of c.load-link.result ≡ 0 = search rules in
    found_here w u c.args.position p c.load-found.result c.load-link.result
    (record {
      life = record { index = c.index-next.result; tag = c.tag.result };
      moment =
          c.of-here.result;
    }) refl c.load-link.ensures.table.layout c.load-link.ensures.table.sound.kept i.since s
    live (omega (arith, c.if-found-from-2.true, c.from-in-loop-layout.ensures, same))
    c.index-next.ensures.index c.tag.ensures.tag
    (ap (λ (t : TokenValue). t.view.front) c.of-here.ensures)

pub loop-layout-smaller : goal.loop-layout-smaller
loop-layout-smaller c =
    let i = c.loop-layout.invariant in
    let w = c.loop-layout.token.view in
    let p : PositionValue = record {
      key = c.args.position.key;
      place = c.loop-layout.place;
      word =
          c.loop-layout.word;
      link = 0;
      moment = c.loop-layout.moment.value.view.front;
    } in
    let same = ap (λ (q : PositionValue). q.key) c.position.view_is in
    let some : index_of p.word ≢ nowhere = λ e. omega
    (arith, c.index-next.ensures.index, c.if-next-eq16777215.false, e) in
    let u = c.load-link.new.token.view in
    let key = c.key_at.ensures.place ∙ (ap (λ (s : Sizes). key_at s c.index-next.result) c.layout-layout.ensures.sizes
    ∙ ap (λ (x : ℕ). key_at c.args.table.now.sizes x) c.index-next.ensures.index) in
    let link = c.link_at.ensures.place ∙
    (ap (λ (s : Sizes). link_at s c.index-next.result) c.layout-layout.ensures.sizes
    ∙ ap (λ (x : ℕ). link_at c.args.table.now.sizes x) c.index-next.ensures.index) in
    let s = seen false c.args.table.now c.loop-layout.token c.load-found.new.token c.load-link.new.token p
    c.load-found.result c.load-link.result _ _ i.of c.load-found.ensures.table
    (is_numbered c.args.token.now.view w [] i.makes c.requires.number) i.at some key link
    c.load-found.ensures.looked c.load-link.ensures.looked in
    let live : mark_of c.load-link.result ≡ 0 = search rules in
    let place = c.link_at-place.ensures.place
    ∙ (ap (λ (s : Sizes). link_at s c.index-next.result)
    (c.layout-layout.ensures.sizes ∙ sym c.load-link.ensures.table.sizes)
    ∙ ap (λ (x : ℕ). link_at u.sizes x) c.index-next.ensures.index) in
    let n = goes_nearer w u p c.load-found.result c.load-link.result c.link_at-place.result
    c.of-here.result.value.view.front i.of.layout c.load-link.ensures.table.layout
    c.load-link.ensures.table.sound.kept i.at some s live
    (omega (arith, c.if-found-from.false, c.if-found-from-2.false, c.from.ensures, c.from-in-loop-layout.ensures, same))
    place
    (ap (λ (t : TokenValue). t.view.front) c.of-here.ensures) in
    subst (λ (y : Sizes). p.key + 1 - low_at y c.of-here.result.value.view.front
    c.link_at-place.result < p.key + 1 - low_at y p.moment p.place) c.load-link.ensures.table.sizes n.nearer

pub loop-layout-preserved : goal.loop-layout-preserved
loop-layout-preserved c =
    let i = c.loop-layout.invariant in
    let w = c.loop-layout.token.view in
    let p : PositionValue = record {
      key = c.args.position.key;
      place = c.loop-layout.place;
      word =
          c.loop-layout.word;
      link = 0;
      moment = c.loop-layout.moment.value.view.front;
    } in
    let same = ap (λ (q : PositionValue). q.key) c.position.view_is in
    let some : index_of p.word ≢ nowhere = λ e. omega
    (arith, c.index-next.ensures.index, c.if-next-eq16777215.false, e) in
    let u = c.load-link.new.token.view in
    let key = c.key_at.ensures.place ∙ (ap (λ (s : Sizes). key_at s c.index-next.result) c.layout-layout.ensures.sizes
    ∙ ap (λ (x : ℕ). key_at c.args.table.now.sizes x) c.index-next.ensures.index) in
    let link = c.link_at.ensures.place ∙
    (ap (λ (s : Sizes). link_at s c.index-next.result) c.layout-layout.ensures.sizes
    ∙ ap (λ (x : ℕ). link_at c.args.table.now.sizes x) c.index-next.ensures.index) in
    let s = seen false c.args.table.now c.loop-layout.token c.load-found.new.token c.load-link.new.token p
    c.load-found.result c.load-link.result _ _ i.of c.load-found.ensures.table
    (is_numbered c.args.token.now.view w [] i.makes c.requires.number) i.at some key link
    c.load-found.ensures.looked c.load-link.ensures.looked in
    let live : mark_of c.load-link.result ≡ 0 = search rules in
    let place = c.link_at-place.ensures.place
    ∙ (ap (λ (s : Sizes). link_at s c.index-next.result)
    (c.layout-layout.ensures.sizes ∙ sym c.load-link.ensures.table.sizes)
    ∙ ap (λ (x : ℕ). link_at u.sizes x) c.index-next.ensures.index) in
    let n = goes_nearer w u p c.load-found.result c.load-link.result c.link_at-place.result
    c.of-here.result.value.view.front i.of.layout c.load-link.ensures.table.layout
    c.load-link.ensures.table.sound.kept i.at some s live
    (omega (arith, c.if-found-from.false, c.if-found-from-2.false, c.from.ensures, c.from-in-loop-layout.ensures, same))
    place
    (ap (λ (t : TokenValue). t.view.front) c.of-here.ensures) in
    record {
      of = c.load-link.ensures.table;
      makes =
          makes_chain c.args.token.now.view w u [] [] i.makes s.makes;
      since =
          prefix_trans c.args.position.moment p.moment c.of-here.result.value.view.front i.since n.since;
      at =
          n.position;
    }
