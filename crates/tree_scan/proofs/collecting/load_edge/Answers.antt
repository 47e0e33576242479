use Rattle.std.proofs.Common.{arith, sym, ◌∙◌, ◌≡◌, ◌<◌, ◌^◌, ℕ}
use Rattle.packed_link.specs.Layout.{Sizes, key_at, link_at, second_at, third_at}
use Rattle.core_journal.specs.Machine.{word_at}
use Rattle.core_rule.specs.Fronts.{key_in}
use Rattle.tree_scan.proofs.EdgesLoaded.{first_loaded, key_fits, key_told, place_is, second_told, then_loaded}
use Rattle.tree_scan.proofs.EdgesLoaded.{third_told, told, weight_fits}
use Rattle.tree_scan.proofs.collecting.load_edge.Goals as goal

pub overflow_cast-key : goal.overflow_cast-key
overflow_cast-key c =
    let t = c.args.token.now in
    let e = c.requires.edge in
    let is : c.index-index.result ≡ e.life.index = c.index-index.ensures.index ∙ sym e.is in
    let loaded = first_loaded c.args.table.now t c.load-key.new.token c.key_at.result (key_at t.view.sizes e.life.index)
    c.load-key.result c.requires.table c.requires.number c.load-key.ensures.looked
    (place_is (λ z i. key_at z i) c.key_at.result c.layout-layout.result c.args.table.now.sizes t.view.sizes
    c.index-index.result e.life.index c.key_at.ensures.place c.layout-layout.ensures.sizes c.requires.table.sizes is) in
    let key = key_told t.view e.source e.life c.requires.table.layout e.met c.load-key.new.token.view c.load-key.result
    loaded in
    let low : key_in t.view e.life.index < 2 ^ 32 = key_fits t.view e.source e.life c.requires.table.layout e.met
    c.requires.table.sound.kept in
    omega (arith, key, low)

pub overflow_cast-weight : goal.overflow_cast-weight
overflow_cast-weight c =
    let t = c.args.token.now in
    let g = c.args.table.now in
    let v = t.view in
    let e = c.requires.edge in
    let x = e.life.index in
    let is : c.index-index.result ≡ e.life.index = c.index-index.ensures.index ∙ sym e.is in
    let at = λ (f : Sizes → ℕ → ℕ) (p : ℕ) (h : p ≡ f c.layout-layout.result c.index-index.result).
    place_is f p c.layout-layout.result g.sizes v.sizes c.index-index.result x h c.layout-layout.ensures.sizes
    c.requires.table.sizes is in
    let first = first_loaded g t c.load-key.new.token c.key_at.result (key_at v.sizes x) c.load-key.result
    c.requires.table c.requires.number c.load-key.ensures.looked
    (at (λ z i. key_at z i) c.key_at.result c.key_at.ensures.place) in
    let second = then_loaded g v c.load-key.new.token c.load.new.token c.second_at.result (second_at v.sizes x)
    c.load.result c.load-key.ensures.table c.requires.number first.goes c.load.ensures.looked
    (at (λ z i. second_at z i) c.second_at.result c.second_at.ensures.place) in
    let third = then_loaded g v c.load.new.token c.load-weight.new.token c.third_at.result (third_at v.sizes x)
    c.load-weight.result c.load.ensures.table c.requires.number second.goes c.load-weight.ensures.looked
    (at (λ z i. third_at z i) c.third_at.result c.third_at.ensures.place) in
    let weight = third_told v e.source e.life c.requires.table.layout e.met c.load-weight.new.token.view
    c.load-weight.result third in
    let low : word_at v.sizes v.front (third_at v.sizes x) < 2 ^ 32 = weight_fits v e.source e.life
    c.requires.table.layout e.met c.requires.table.sound.kept in
    omega (arith, weight, low)

pub returns-clause-told : goal.returns-clause-told
returns-clause-told c =
    let t = c.args.token.now in
    let g = c.args.table.now in
    let v = t.view in
    let e = c.requires.edge in
    let x = e.life.index in
    let is : c.index-index.result ≡ e.life.index = c.index-index.ensures.index ∙ sym e.is in
    let at = λ (f : Sizes → ℕ → ℕ) (p : ℕ) (h : p ≡ f c.layout-layout.result c.index-index.result).
    place_is f p c.layout-layout.result g.sizes v.sizes c.index-index.result x h c.layout-layout.ensures.sizes
    c.requires.table.sizes is in
    let first = first_loaded g t c.load-key.new.token c.key_at.result (key_at v.sizes x) c.load-key.result
    c.requires.table c.requires.number c.load-key.ensures.looked
    (at (λ z i. key_at z i) c.key_at.result c.key_at.ensures.place) in
    let second = then_loaded g v c.load-key.new.token c.load.new.token c.second_at.result (second_at v.sizes x)
    c.load.result c.load-key.ensures.table c.requires.number first.goes c.load.ensures.looked
    (at (λ z i. second_at z i) c.second_at.result c.second_at.ensures.place) in
    let third = then_loaded g v c.load.new.token c.load-weight.new.token c.third_at.result (third_at v.sizes x)
    c.load-weight.result c.load.ensures.table c.requires.number second.goes c.load-weight.ensures.looked
    (at (λ z i. third_at z i) c.third_at.result c.third_at.ensures.place) in
    let fourth = then_loaded g v c.load-weight.new.token c.load-link.new.token c.link_at.result (link_at v.sizes x)
    c.load-link.result c.load-weight.ensures.table c.requires.number third.goes c.load-link.ensures.looked
    (at (λ z i. link_at z i) c.link_at.result c.link_at.ensures.place) in
    let z = c.requires.table.layout in
    told v e.source e.life z e.met c.load-link.new.token.view c.args.at c.index-index.result c.tag.result
    c.load-link.result c.load-key.result c.load.result c.load-weight.result c.index.result c.tag-2.result e.is
    c.index-index.ensures.index c.tag.ensures.tag
    (key_told v e.source e.life z e.met c.load-key.new.token.view c.load-key.result first)
    (second_told v e.source e.life z e.met c.load.new.token.view c.load.result second)
    (third_told v e.source e.life z e.met c.load-weight.new.token.view c.load-weight.result third) fourth
    c.index.ensures.index c.tag-2.ensures.tag
