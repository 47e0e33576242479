use Rattle.std.proofs.Common.{arith, refl, ap, ◌≡◌, ◌<◌, ◌^◌, ◌∙◌}
use Rattle.packed_link.specs.Layout.{Sizes, second_at, third_at}
use Rattle.edge_list.proofs.EdgeWalksTell.{second_is, third_is, edge_told, weight_loaded_fits}
use Rattle.edge_list.proofs.walks.edge_at.Goals as goal

pub overflow_cast-weight : goal.overflow_cast-weight
overflow_cast-weight c =
    let v = c.args.token.now.view in
    let g = c.args.table.now in
    let x = c.args.life in
    let at : c.second_at.result ≡ second_at g.sizes x.index = c.second_at.ensures.place
    ∙ ap (λ (s : Sizes). second_at s x.index) c.layout-layout.ensures.sizes in
    let at' : c.third_at.result ≡ third_at g.sizes x.index = c.third_at.ensures.place
    ∙ ap (λ (s : Sizes). third_at s x.index) c.layout-layout.ensures.sizes in
    let third = third_is g c.args.token.now c.load.new.token c.load-weight.new.token c.args.source x c.load.result
    c.load-weight.result _ _ c.requires.table c.load.ensures.table c.requires.number c.requires.edge at at'
    c.load.ensures.looked c.load-weight.ensures.looked in
    let low : c.load-weight.result < 2 ^ 32 = weight_loaded_fits v c.args.source x c.load-weight.result
    c.requires.table.layout c.requires.table.sound.kept c.requires.edge third in
    omega (arith, low)

pub returns-clause-linked : goal.returns-clause-linked
returns-clause-linked c =
    let v = c.args.token.now.view in
    let g = c.args.table.now in
    let x = c.args.life in
    let at : c.second_at.result ≡ second_at g.sizes x.index = c.second_at.ensures.place
    ∙ ap (λ (s : Sizes). second_at s x.index) c.layout-layout.ensures.sizes in
    let at' : c.third_at.result ≡ third_at g.sizes x.index = c.third_at.ensures.place
    ∙ ap (λ (s : Sizes). third_at s x.index) c.layout-layout.ensures.sizes in
    let third = third_is g c.args.token.now c.load.new.token c.load-weight.new.token c.args.source x c.load.result
    c.load-weight.result _ _ c.requires.table c.load.ensures.table c.requires.number c.requires.edge at at'
    c.load.ensures.looked c.load-weight.ensures.looked in
    let second = second_is g c.args.token.now c.load.new.token c.load-weight.new.token c.args.source x c.load.result
    c.load-weight.result _ _ c.requires.table c.load.ensures.table c.requires.number c.requires.edge at at'
    c.load.ensures.looked c.load-weight.ensures.looked in
    let told = edge_told v c.args.source x c.load.result c.load-weight.result c.args.key c.index.result c.tag.result
    c.load-weight.result c.requires.table.layout c.requires.table.sound.kept c.requires.edge second third c.requires.key
    c.index.ensures.index c.tag.ensures.tag refl in
    told
