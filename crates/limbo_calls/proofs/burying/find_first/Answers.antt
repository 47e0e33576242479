use Rattle.std.proofs.Common.{◌≡◌, ◌≢◌, ℕ, true, ap, sym, ◌∙◌, subst, arith}
use Rattle.packed_link.specs.Link.{index_of, nowhere}
use Rattle.packed_link.specs.Layout.{Sizes, bucket_at, link_at}
use Rattle.limbo_calls.specs.Steady.{LeadsToMet}
use Rattle.limbo_calls.proofs.FirstIsFound.{first_there, first_found}
use Rattle.limbo_calls.proofs.StaysSteady.{steady_look}
use Rattle.limbo_calls.proofs.burying.find_first.Goals as goal

pub returns-then-index-eq16777215-clause-steady : goal.returns-then-index-eq16777215-clause-steady
returns-then-index-eq16777215-clause-steady c =
    let v = c.args.token.now.view in
    let m = c.load.new.token.view in
    let n = c.args._steps in
    let z = c.requires.table.layout in
    let s = c.requires.steady in
    steady_look true n v m _ _ z c.requires.table.sound c.load.ensures.looked s

pub link_at-requires : goal.link_at-requires
link_at-requires c =
    let v = c.args.token.now.view in
    let m = c.load.new.token.view in
    let n = c.args._steps in
    let z = c.requires.table.layout in
    let s = c.requires.steady in
    let seen = c.load.result in
    let sizes : c.layout-layout.result ≡ v.sizes = c.layout-layout.ensures.sizes ∙ sym c.requires.table.sizes in
    let at_is : c.bucket_at.result ≡ bucket_at v.sizes 0 = c.bucket_at.ensures.place ∙ ap
    (λ (y : Sizes). bucket_at y 0) sizes in
    let one : v.sizes.buckets ≡ 1 = ap (λ (y : Sizes). y.buckets) c.requires.table.sizes ∙ c.requires.one in
    let some : index_of seen ≢ nowhere = λ none. omega (
      arith,
      c.index-index.ensures.index,
      c.if-index-eq16777215.false,
      none,
    ) in
    let there = first_there n v m c.bucket_at.result seen z c.requires.table.sound s c.load.ensures.looked at_is one
    some in
    omega (arith, there, c.index-index.ensures.index, ap (λ (y : Sizes). y.nodes) sizes)

pub returns-clause-steady : goal.returns-clause-steady
returns-clause-steady c =
    let v = c.args.token.now.view in
    let m = c.load.new.token.view in
    let n = c.args._steps in
    let z = c.requires.table.layout in
    let s = c.requires.steady in
    steady_look true n m c.load-2.new.token.view _ _ c.load.ensures.table.layout c.load.ensures.table.sound
    c.load-2.ensures.looked (steady_look true n v m _ _ z c.requires.table.sound c.load.ensures.looked s)

pub returns-clause-first : goal.returns-clause-first
returns-clause-first c =
    let v = c.args.token.now.view in
    let m = c.load.new.token.view in
    let n = c.args._steps in
    let z = c.requires.table.layout in
    let s = c.requires.steady in
    let seen = c.load.result in
    let sizes : c.layout-layout.result ≡ v.sizes = c.layout-layout.ensures.sizes ∙ sym c.requires.table.sizes in
    let at_is : c.bucket_at.result ≡ bucket_at v.sizes 0 = c.bucket_at.ensures.place ∙ ap
    (λ (y : Sizes). bucket_at y 0) sizes in
    let one : v.sizes.buckets ≡ 1 = ap (λ (y : Sizes). y.buckets) c.requires.table.sizes ∙ c.requires.one in
    let some : index_of seen ≢ nowhere = λ none. omega (
      arith,
      c.index-index.ensures.index,
      c.if-index-eq16777215.false,
      none,
    ) in
    let k = c.load-2.new.token.view in
    let place : c.link_at.result ≡ link_at v.sizes c.index-index.result = c.link_at.ensures.place ∙ ap
    (λ (y : Sizes). link_at y c.index-index.result) sizes in
    subst (λ (t : ℕ). LeadsToMet k seen (record { index = c.index-index.result; tag = t })) (sym c.tag-tag.ensures.tag)
    (first_found n v m c.bucket_at.result seen z c.requires.table.sound s c.load.ensures.looked at_is one some k
    c.link_at.result c.load-2.result c.index-index.result c.load.ensures.table.sound c.load-2.ensures.looked place
    c.index-index.ensures.index)
