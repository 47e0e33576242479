use Rattle.std.proofs.Common.{◌≡◌, ℕ, ◌<◌, ap, sym, subst, ◌∙◌, arith}
use Rattle.packed_link.specs.Layout.{Sizes, key_at, second_at}
use Rattle.core_rule.specs.Fronts.{IsEdgeAbove}
use Rattle.core_rule.specs.Views.{IsEdgeIn}
use Rattle.table_calls.proofs.ListWords.{list_loaded}
use Rattle.table_calls.proofs.Loaded.{leads_there, loaded, loaded_numbered}
use Rattle.layer_rows.proofs.EdgesInFront.{edge_above}
use Rattle.layer_rows.proofs.edges.see_front.Goals as goal

pub key_at-requires : goal.key_at-requires
key_at-requires c =
    let v = c.args.token.now.view in
    let m = c.load.new.token.view in
    let source = c.args.source in
    let at : c.second_at.result ≡ second_at v.sizes source.index = c.second_at.ensures.place ∙ ap
    (λ (q : Sizes). second_at q source.index) (c.layout-layout.ensures.sizes ∙ sym c.requires.table.sizes) in
    let led = list_loaded v m source c.second_at.result c.load.result c.requires.table.layout
    c.load.ensures.table.layout c.requires.number c.requires.table.sound c.requires.source at c.load.ensures.looked
    in
    let d = leads_there c.load.result c.index-index.result (IsEdgeIn m source) led.1 c.index-index.ensures.index
    c.if-index-eq16777215.false in
    subst (λ (q : Sizes). c.index-index.result < q.nodes) (sym
    (c.layout-layout.ensures.sizes ∙ sym c.load.ensures.table.sizes)) d.life.there

pub returns-clause-behind : goal.returns-clause-behind
returns-clause-behind c =
    let v = c.args.token.now.view in
    let m = c.load.new.token.view in
    let w = c.load-found.new.token.view in
    let source = c.args.source in
    let at : c.second_at.result ≡ second_at v.sizes source.index = c.second_at.ensures.place ∙ ap
    (λ (q : Sizes). second_at q source.index) (c.layout-layout.ensures.sizes ∙ sym c.requires.table.sizes) in
    let led = list_loaded v m source c.second_at.result c.load.result c.requires.table.layout
    c.load.ensures.table.layout c.requires.number c.requires.table.sound c.requires.source at c.load.ensures.looked
    in
    let d = leads_there c.load.result c.index-index.result (IsEdgeIn m source) led.1 c.index-index.ensures.index
    c.if-index-eq16777215.false in
    let has = loaded_numbered v m c.requires.number c.requires.table.sound
    (loaded v c.second_at.result c.load.result m c.load.ensures.looked) in
    let key_place : c.key_at.result ≡ key_at m.sizes c.index-index.result = c.key_at.ensures.place ∙ ap
    (λ (q : Sizes). key_at q c.index-index.result) (c.layout-layout.ensures.sizes ∙ sym c.load.ensures.table.sizes)
    in
    let above = edge_above m w source c.args.key c.index-index.result c.key_at.result c.load-found.result
    c.load.ensures.table.layout has c.load.ensures.table.sound d c.load-found.ensures.looked key_place
    (omega (arith, c.if-found-key.false)) in
    λ some. subst (λ (n : ℕ). IsEdgeAbove w source c.args.key n) c.index-index.ensures.index above
