use Rattle.std.proofs.Common.{rules, ◌≡◌, ℕ, ◌<◌, ◌^◌, [], ◌∷◌, refl, ap, ap₂, ◌∙◌, subst, arith}
use Rattle.packed_link.specs.Link.{index_of, nowhere, pack}
use Rattle.packed_link.specs.declared.link.Life.{Life}
use Rattle.core_rule.specs.OwnEvents.{store_event}
use Rattle.core_rule.specs.declared.view.View.{View}
use Rattle.core_rule.proofs.CallLimits.{life_tag_low}
use Rattle.core_stretches.specs.Makes.{Makes}
use Rattle.node_arena.proofs.NodeIsFilled.{stores_begin, store_more, may_store, written, filled_as_vertex}
use Rattle.node_arena.proofs.filling.fill_vertex.Goals as goal

pub pack-link-requires-clause-tag_fits : goal.pack-link-requires-clause-tag_fits
pack-link-requires-clause-tag_fits c =
    let x = c.args.fresh.now in
    let tag : c.life-life.result.tag ≡ x.tag = ap (λ (y : Life). y.tag) c.life-life.ensures.life in
    let low : x.tag < 2 ^ 39 = life_tag_low c.args.token.now.view c.requires.table.layout c.requires.table.sound.kept x
    c.requires.fresh.life in
    omega (arith, low, tag)

pub store_private-requires-2-clause-may : goal.store_private-requires-2-clause-may
store_private-requires-2-clause-may c =
    let x = c.args.fresh.now in
    let g = c.args.table.now in
    let t0 = c.args.token.now in
    let v : View = t0.view in
    let h0 = stores_begin g t0 x c.requires.table c.requires.number c.requires.fresh in
    let w0 : ℕ = c.from.result in
    let t1 = c.store_private.new.token in
    let h1 = store_more g v x [] t0 t1 0 w0 h0 c.store_private.ensures.table c.store_private.ensures.stored in
    let tag : c.life-life.result.tag ≡ x.tag = ap (λ (y : Life). y.tag) c.life-life.ensures.life in
    let low : x.tag < 2 ^ 39 = life_tag_low c.args.token.now.view c.requires.table.layout c.requires.table.sound.kept x
    c.requires.fresh.life in
    may_store g v x (store_event v x 0 w0 ∷ []) t1 1 c.pack-link.result.0 h1 (omega arith)
    (omega (arith, c.pack-link.ensures.word, low, tag, c.index.ensures.bound))
    (λ y. (c.pack-link.ensures.tag ∙ tag, c.pack-link.ensures.mark))

pub store_private-requires-3-clause-may : goal.store_private-requires-3-clause-may
store_private-requires-3-clause-may c =
    let x = c.args.fresh.now in
    let g = c.args.table.now in
    let t0 = c.args.token.now in
    let v : View = t0.view in
    let h0 = stores_begin g t0 x c.requires.table c.requires.number c.requires.fresh in
    let w0 : ℕ = c.from.result in
    let t1 = c.store_private.new.token in
    let h1 = store_more g v x [] t0 t1 0 w0 h0 c.store_private.ensures.table c.store_private.ensures.stored in
    let w1 : ℕ = c.pack-link.result.0 in
    let t2 = c.store_private-2.new.token in
    let h2 = store_more g v x (store_event v x 0 w0 ∷ []) t1 t2 1 w1 h1 c.store_private-2.ensures.table
    c.store_private-2.ensures.stored in
    let tag : c.life-life.result.tag ≡ x.tag = ap (λ (y : Life). y.tag) c.life-life.ensures.life in
    let low : x.tag < 2 ^ 39 = life_tag_low c.args.token.now.view c.requires.table.layout c.requires.table.sound.kept x
    c.requires.fresh.life in
    may_store g v x (store_event v x 0 w0 ∷ store_event v x 1 w1 ∷ []) t2 2 c.pack-none.result.0 h2 (omega arith)
    (omega (arith, c.pack-none.ensures.word, low, tag)) (λ y. absurd (omega (arith, y)))

pub store_private-requires-4-clause-may : goal.store_private-requires-4-clause-may
store_private-requires-4-clause-may c =
    let x = c.args.fresh.now in
    let g = c.args.table.now in
    let t0 = c.args.token.now in
    let v : View = t0.view in
    let h0 = stores_begin g t0 x c.requires.table c.requires.number c.requires.fresh in
    let w0 : ℕ = c.from.result in
    let t1 = c.store_private.new.token in
    let h1 = store_more g v x [] t0 t1 0 w0 h0 c.store_private.ensures.table c.store_private.ensures.stored in
    let w1 : ℕ = c.pack-link.result.0 in
    let t2 = c.store_private-2.new.token in
    let h2 = store_more g v x (store_event v x 0 w0 ∷ []) t1 t2 1 w1 h1 c.store_private-2.ensures.table
    c.store_private-2.ensures.stored in
    let w2 : ℕ = c.pack-none.result.0 in
    let t3 = c.store_private-3.new.token in
    let h3 = store_more g v x (store_event v x 0 w0 ∷ store_event v x 1 w1 ∷ []) t2 t3 2 w2 h2
    c.store_private-3.ensures.table c.store_private-3.ensures.stored in
    may_store g v x (store_event v x 0 w0 ∷ store_event v x 1 w1 ∷ store_event v x 2 w2 ∷ []) t3 3 0 h3 (omega arith)
    (omega arith) (λ y. absurd (omega (arith, y)))

pub returns-clause-makes : goal.returns-clause-makes
returns-clause-makes c =
    let x = c.args.fresh.now in
    let g = c.args.table.now in
    let t0 = c.args.token.now in
    let v : View = t0.view in
    let h0 = stores_begin g t0 x c.requires.table c.requires.number c.requires.fresh in
    let w0 : ℕ = c.from.result in
    let t1 = c.store_private.new.token in
    let h1 = store_more g v x [] t0 t1 0 w0 h0 c.store_private.ensures.table c.store_private.ensures.stored in
    let w1 : ℕ = c.pack-link.result.0 in
    let t2 = c.store_private-2.new.token in
    let h2 = store_more g v x (store_event v x 0 w0 ∷ []) t1 t2 1 w1 h1 c.store_private-2.ensures.table
    c.store_private-2.ensures.stored in
    let w2 : ℕ = c.pack-none.result.0 in
    let t3 = c.store_private-3.new.token in
    let h3 = store_more g v x (store_event v x 0 w0 ∷ store_event v x 1 w1 ∷ []) t2 t3 2 w2 h2
    c.store_private-3.ensures.table c.store_private-3.ensures.stored in
    let w3 : ℕ = 0 in
    let t4 = c.store_private-4.new.token in
    let h4 = store_more g v x (store_event v x 0 w0 ∷ store_event v x 1 w1 ∷ store_event v x 2 w2 ∷ []) t3 t4 3 w3 h3
    c.store_private-4.ensures.table c.store_private-4.ensures.stored in
    let tag : c.life-life.result.tag ≡ x.tag = ap (λ (y : Life). y.tag) c.life-life.ensures.life in
    let low : x.tag < 2 ^ 39 = life_tag_low c.args.token.now.view c.requires.table.layout c.requires.table.sound.kept x
    c.requires.fresh.life in
    let key : w0 ≡ c.args.key = c.from.ensures in
    let link : w1 ≡ pack (index_of c.args.next.0) 0 x.tag = c.pack-link.ensures.word ∙ ap₂
    (λ (i n : ℕ). pack i 0 n) c.index.ensures.index tag in
    let second : w2 ≡ pack nowhere 0 x.tag = c.pack-none.ensures.word ∙ ap (pack nowhere 0) tag in
    let third : w3 ≡ 0 = refl in
    subst (λ (n : ℕ). Makes v (store_event v x 0 c.args.key ∷ store_event v x 1
    (pack (index_of c.args.next.0) 0 x.tag) ∷ store_event v x 2 (pack nowhere 0 x.tag) ∷ store_event v x 3 n ∷ [])
    t4.view) third (subst (λ (n : ℕ). Makes v (store_event v x 0 c.args.key ∷ store_event v x 1
    (pack (index_of c.args.next.0) 0 x.tag) ∷ store_event v x 2 n ∷ store_event v x 3 w3 ∷ []) t4.view) second
    (subst (λ (n : ℕ). Makes v (store_event v x 0 c.args.key ∷ store_event v x 1 n ∷ store_event v x 2 w2 ∷
    store_event v x 3 w3 ∷ []) t4.view) link (subst (λ (n : ℕ). Makes v
    (store_event v x 0 n ∷ store_event v x 1 w1 ∷ store_event v x 2 w2 ∷ store_event v x 3 w3 ∷ []) t4.view) key
    (h4.makes))))

pub returns-clause-filled : goal.returns-clause-filled
returns-clause-filled c =
    let x = c.args.fresh.now in
    let g = c.args.table.now in
    let t0 = c.args.token.now in
    let v : View = t0.view in
    let h0 = stores_begin g t0 x c.requires.table c.requires.number c.requires.fresh in
    let w0 : ℕ = c.from.result in
    let t1 = c.store_private.new.token in
    let h1 = store_more g v x [] t0 t1 0 w0 h0 c.store_private.ensures.table c.store_private.ensures.stored in
    let w1 : ℕ = c.pack-link.result.0 in
    let t2 = c.store_private-2.new.token in
    let h2 = store_more g v x (store_event v x 0 w0 ∷ []) t1 t2 1 w1 h1 c.store_private-2.ensures.table
    c.store_private-2.ensures.stored in
    let w2 : ℕ = c.pack-none.result.0 in
    let t3 = c.store_private-3.new.token in
    let h3 = store_more g v x (store_event v x 0 w0 ∷ store_event v x 1 w1 ∷ []) t2 t3 2 w2 h2
    c.store_private-3.ensures.table c.store_private-3.ensures.stored in
    let w3 : ℕ = 0 in
    let t4 = c.store_private-4.new.token in
    let h4 = store_more g v x (store_event v x 0 w0 ∷ store_event v x 1 w1 ∷ store_event v x 2 w2 ∷ []) t3 t4 3 w3 h3
    c.store_private-4.ensures.table c.store_private-4.ensures.stored in
    let tag : c.life-life.result.tag ≡ x.tag = ap (λ (y : Life). y.tag) c.life-life.ensures.life in
    let low : x.tag < 2 ^ 39 = life_tag_low c.args.token.now.view c.requires.table.layout c.requires.table.sound.kept x
    c.requires.fresh.life in
    let key : w0 ≡ c.args.key = c.from.ensures in
    let link : w1 ≡ pack (index_of c.args.next.0) 0 x.tag = c.pack-link.ensures.word ∙ ap₂
    (λ (i n : ℕ). pack i 0 n) c.index.ensures.index tag in
    let second : w2 ≡ pack nowhere 0 x.tag = c.pack-none.ensures.word ∙ ap (pack nowhere 0) tag in
    let third : w3 ≡ 0 = refl in
    let p = written g v x [] t0 t1 0 w0 h0 c.store_private.ensures.table c.store_private.ensures.stored in
    let q = written g v x (store_event v x 0 w0 ∷ []) t1 t2 1 w1 h1 c.store_private-2.ensures.table
    c.store_private-2.ensures.stored in
    let r = written g v x (store_event v x 0 w0 ∷ store_event v x 1 w1 ∷ []) t2 t3 2 w2 h2
    c.store_private-3.ensures.table c.store_private-3.ensures.stored in
    let s = written g v x (store_event v x 0 w0 ∷ store_event v x 1 w1 ∷ store_event v x 2 w2 ∷ []) t3 t4 3 w3 h3
    c.store_private-4.ensures.table c.store_private-4.ensures.stored in
    let fits : c.args.key < 2 ^ 32 = search rules in
    filled_as_vertex g v x (store_event v x 0 w0 ∷ store_event v x 1 w1 ∷ store_event v x 2 w2 ∷ store_event v x 3 w3 ∷
    []) t4 h4 _ _ _ _ w0 w1 w2 w3 p q r s c.args.key (index_of c.args.next.0) fits key link second third
