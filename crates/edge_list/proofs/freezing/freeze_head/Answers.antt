use Rattle.std.proofs.Common.{ap, ap₂, sym, ◌∙◌, ◌≡◌, ℕ}
use Rattle.packed_link.specs.Link.{index_of}
use Rattle.packed_link.specs.Layout.{Sizes, second_at}
use Rattle.packed_link.specs.declared.link.Life.{Life}
use Rattle.edge_list.specs.Freezing.{FrozenValue}
use Rattle.edge_list.proofs.ListUnderFreezing.{head_closed}
use Rattle.edge_list.proofs.freezing.freeze_head.Goals as goal

pub returns-clause-closed : goal.returns-clause-closed
returns-clause-closed c =
    let v = c.args.token.now.view in
    let w = c.freeze_head.new.token.view in
    let x = c.args.from.now in
    let place = second_at c.args.table.now.sizes x.index in
    let at : c.second_at-place.result ≡ place = c.second_at-place.ensures.place ∙ ap₂
    (λ (s : Sizes) (i : ℕ). second_at s i) c.layout-layout.ensures.sizes
    (ap (λ (y : Life). y.index) c.life-life.ensures.life) in
    let next = c.index-next.ensures.index in
    let is : ◌≡◌ {A = FrozenValue}
    (record { from = c.life-life.result; place = c.second_at-place.result; next = c.index-next.result })
    (record { from = x; place = place; next = index_of c.freeze_head.result }) =
    ap₂ (λ (y : Life) (p : ℕ). record { from = y; place = p; next = c.index-next.result }) c.life-life.ensures.life at
    ∙ ap (λ (n : ℕ). record { from = x; place = place; next = n }) next in
    head_closed v w x _ place c.freeze_head.result c.requires.table.layout c.freeze_head.ensures.table.layout
    c.requires.number c.requires.table.sound c.requires.vertex
    (ap (λ (s : Sizes). second_at s x.index) (sym c.requires.table.sizes)) is c.freeze_head.ensures.marked
