use Rattle.std.proofs.Common.{ap, ap₂, sym, false, subst, ◌≡◌, ◌∙◌, ◌%◌, ℕ, List}
use Rattle.packed_link.specs.Layout.{Sizes, bucket_at}
use Rattle.core_journal.specs.declared.event.Event.{Event}
use Rattle.graph_table.specs.Tokens.{TokenValue}
use Rattle.vertex_list.specs.Positions.{IsPosition}
use Rattle.vertex_list.proofs.PositionsGoOn.{started}
use Rattle.vertex_list.proofs.walks.start.Goals as goal

pub returns-clause-position : goal.returns-clause-position
returns-clause-position c =
    let w = c.load-word.new.token.view in
    let sizes : c.layout-layout.result ≡ w.sizes = c.layout-layout.ensures.sizes
    ∙ sym c.load-word.ensures.table.sizes in
    let here = started c.args.token.now.view w c.args.key c.bucket_at-place.result c.load-word.result
    c.load-word.ensures.table.layout c.requires.number c.requires.table.sound c.requires.pass
    c.load-word.ensures.looked
    (c.bucket_at-place.ensures.place ∙ ap₂ (λ (s : Sizes) (b : ℕ). bucket_at s (c.args.key % b)) sizes
    (c.buckets.ensures.buckets ∙ ap (λ (s : Sizes). s.buckets) sizes)) in
    subst (λ (f : List Event). IsPosition false w
    (record { key = c.args.key; place = c.bucket_at-place.result; word = c.load-word.result; link = 0; moment = f }))
    (ap (λ (t : TokenValue). t.view.front) (sym c.of-moment.ensures)) here
