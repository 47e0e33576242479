use Rattle.std.proofs.Common.{◌≡◌, false, true, refl, ap, sym, ◌∙◌, subst, inl, inr}
use Rattle.packed_link.specs.Link.{mark_of}
use Rattle.packed_link.specs.Layout.{Sizes, bucket_at, link_at}
use Rattle.packed_link.specs.declared.link.Life.{Life}
use Rattle.core_stretches.specs.Holdings.{IsUnlinkedVertex}
use Rattle.limbo_calls.proofs.FirstIsFound.{lost_mark, may_unlink, steady_marked, steady_cut, is_unlinked}
use Rattle.limbo_calls.proofs.StaysSteady.{low_mark}
use Rattle.limbo_calls.proofs.burying.unlink_first.Goals as goal

pub unlink_vertex-requires-clause-may : goal.unlink_vertex-requires-clause-may
unlink_vertex-requires-clause-may c =
    let v = c.args.token.now.view in
    let m = c.mark_vertex.new.token.view in
    let k = c.load.new.token.view in
    let n = c.args._steps in
    let x = c.args.life in
    let seen = c.args.seen.0 in
    let found = c.mark_vertex.result in
    let z = c.requires.table.layout in
    let sizes : c.layout-layout.result ≡ v.sizes = c.layout-layout.ensures.sizes ∙ sym c.requires.table.sizes in
    let one : v.sizes.buckets ≡ 1 = ap (λ (y : Sizes). y.buckets) c.requires.table.sizes ∙ c.requires.one in
    let unmarked : mark_of found ≡ 0 = low_mark found (λ one. let t : false ≡ true = c.if-marked.ensures.1 one in absurd
    (cc)) in
    let won = c.mark_vertex.ensures.marked.won unmarked in
    let at_is : c.link_at.result ≡ link_at v.sizes x.index = c.link_at.ensures.place ∙ ap
    (λ (y : Sizes). link_at y x.index) sizes in
    let marked : mark_of c.load.result ≡ 1 = c.if-not-marked.ensures.0 refl in
    may_unlink n v m k x seen _ found c.link_at.result c.load.result z c.requires.table.sound c.requires.steady
    c.requires.first one won c.mark_vertex.ensures.table.sound c.load.ensures.looked at_is marked
    c.bucket_at-place.result c.index-next.result (c.bucket_at-place.ensures.place ∙ ap
    (λ (y : Sizes). bucket_at y 0) sizes) c.index-next.ensures.index

pub returns-in-Won-clause-steady : goal.returns-in-Won-clause-steady
returns-in-Won-clause-steady c =
    let v = c.args.token.now.view in
    let m = c.mark_vertex.new.token.view in
    let k = c.load.new.token.view in
    let n = c.args._steps in
    let x = c.args.life in
    let seen = c.args.seen.0 in
    let found = c.mark_vertex.result in
    let z = c.requires.table.layout in
    let sizes : c.layout-layout.result ≡ v.sizes = c.layout-layout.ensures.sizes ∙ sym c.requires.table.sizes in
    let one : v.sizes.buckets ≡ 1 = ap (λ (y : Sizes). y.buckets) c.requires.table.sizes ∙ c.requires.one in
    let unmarked : mark_of found ≡ 0 = low_mark found (λ one. let t : false ≡ true = c.if-marked.ensures.1 one in absurd
    (cc)) in
    let won = c.mark_vertex.ensures.marked.won unmarked in
    let at_is : c.link_at.result ≡ link_at v.sizes x.index = c.link_at.ensures.place ∙ ap
    (λ (y : Sizes). link_at y x.index) sizes in
    let marked : mark_of c.load.result ≡ 1 = c.if-not-marked.ensures.0 refl in
    let s = steady_marked n v m k x seen _ found c.link_at.result c.load.result z c.requires.table.sound
    c.requires.steady c.requires.first one won c.mark_vertex.ensures.table.sound c.load.ensures.looked at_is marked
    in
    let may = may_unlink n v m k x seen _ found c.link_at.result c.load.result z c.requires.table.sound
    c.requires.steady c.requires.first one won c.mark_vertex.ensures.table.sound c.load.ensures.looked at_is marked
    c.bucket_at-place.result c.index-next.result (c.bucket_at-place.ensures.place ∙ ap
    (λ (y : Sizes). bucket_at y 0) sizes) c.index-next.ensures.index in
    let w = c.unlink_vertex.new.token.view in
    steady_cut n k w x _ _ c.bucket_at-place.result seen c.index-next.result c.load.ensures.table.layout
    c.load.ensures.table.sound s may.vertex.life c.in-Won.ensures.tried.1

pub returns-in-Won-clause-unlinked : goal.returns-in-Won-clause-unlinked
returns-in-Won-clause-unlinked c =
    let v = c.args.token.now.view in
    let m = c.mark_vertex.new.token.view in
    let k = c.load.new.token.view in
    let n = c.args._steps in
    let x = c.args.life in
    let seen = c.args.seen.0 in
    let found = c.mark_vertex.result in
    let z = c.requires.table.layout in
    let sizes : c.layout-layout.result ≡ v.sizes = c.layout-layout.ensures.sizes ∙ sym c.requires.table.sizes in
    let one : v.sizes.buckets ≡ 1 = ap (λ (y : Sizes). y.buckets) c.requires.table.sizes ∙ c.requires.one in
    let unmarked : mark_of found ≡ 0 = low_mark found (λ one. let t : false ≡ true = c.if-marked.ensures.1 one in absurd
    (cc)) in
    let won = c.mark_vertex.ensures.marked.won unmarked in
    let at_is : c.link_at.result ≡ link_at v.sizes x.index = c.link_at.ensures.place ∙ ap
    (λ (y : Sizes). link_at y x.index) sizes in
    let marked : mark_of c.load.result ≡ 1 = c.if-not-marked.ensures.0 refl in
    let s = steady_marked n v m k x seen _ found c.link_at.result c.load.result z c.requires.table.sound
    c.requires.steady c.requires.first one won c.mark_vertex.ensures.table.sound c.load.ensures.looked at_is marked
    in
    let may = may_unlink n v m k x seen _ found c.link_at.result c.load.result z c.requires.table.sound
    c.requires.steady c.requires.first one won c.mark_vertex.ensures.table.sound c.load.ensures.looked at_is marked
    c.bucket_at-place.result c.index-next.result (c.bucket_at-place.ensures.place ∙ ap
    (λ (y : Sizes). bucket_at y 0) sizes) c.index-next.ensures.index in
    let w = c.unlink_vertex.new.token.view in
    subst (λ (y : Life). IsUnlinkedVertex w y) (sym c.in-Won.ensures.tried.0)
    (is_unlinked n k w x _ _ c.bucket_at-place.result seen c.index-next.result c.load.ensures.table.layout
    c.load.ensures.table.sound s may.vertex.life c.in-Won.ensures.tried.1)

pub returns-then-not-marked-clause-none : goal.returns-then-not-marked-clause-none
returns-then-not-marked-clause-none c = λ _.
    let v = c.args.token.now.view in
    let m = c.mark_vertex.new.token.view in
    let x = c.args.life in
    let found = c.mark_vertex.result in
    let sizes : c.layout-layout.result ≡ v.sizes = c.layout-layout.ensures.sizes ∙ sym c.requires.table.sizes in
    let unmarked : mark_of found ≡ 0 = low_mark found (λ one. let t : false ≡ true = c.if-marked.ensures.1 one in absurd
    (cc)) in
    let at_is : c.link_at.result ≡ link_at v.sizes x.index = c.link_at.ensures.place ∙ ap
    (λ (y : Sizes). link_at y x.index) sizes in
    let none : mark_of c.load.result ≡ 0 = low_mark c.load.result (λ one.
    let t : false ≡ true = c.if-not-marked.ensures.1 one in absurd (cc)) in
    inr (inl (lost_mark v m c.load.new.token.view x _ found c.link_at.result c.load.result c.requires.steady.numbered
    c.requires.table.sound (c.mark_vertex.ensures.marked.won unmarked) c.mark_vertex.ensures.table.sound
    c.load.ensures.looked at_is none))
