use Rattle.std.proofs.Common.{◌≡◌, ap, sym, ◌∙◌, arith, inr}
use Rattle.packed_link.specs.Link.{index_of, nowhere}
use Rattle.packed_link.specs.Layout.{Sizes, bucket_at}
use Rattle.limbo_calls.proofs.FirstIsLinked.{closed_then, first_lost, links_one, may_link, pass_then, steady_added}
use Rattle.limbo_calls.proofs.adding.add_first.Goals as goal

pub open_pass-requires-clause-closed : goal.open_pass-requires-clause-closed
open_pass-requires-clause-closed c =
    let v0 = c.args.token.now.view in
    let v1 = c.take.new.token.view in
    let v2 = c.fill_vertex.new.token.view in
    let x = c.in-Node.fresh in
    let n = c.args._steps in
    let key = c.args.key in
    let z = c.requires.table.layout in
    let s = c.requires.steady in
    let t = c.in-Node.ensures.taken in
    let stores = c.fill_vertex.ensures.makes in
    closed_then n key v0 v1 v2 x z s t stores

pub link_vertex-requires-clause-may : goal.link_vertex-requires-clause-may
link_vertex-requires-clause-may c =
    let v0 = c.args.token.now.view in
    let v1 = c.take.new.token.view in
    let v2 = c.fill_vertex.new.token.view in
    let x = c.in-Node.fresh in
    let n = c.args._steps in
    let key = c.args.key in
    let z = c.requires.table.layout in
    let s = c.requires.steady in
    let t = c.in-Node.ensures.taken in
    let stores = c.fill_vertex.ensures.makes in
    let v3 = c.open_pass.new.token.view in
    let v4 = c.load.new.token.view in
    let at = c.bucket_at-place.result in
    let seen = c.load.result in
    let sizes : c.layout-layout.result ≡ v0.sizes = c.layout-layout.ensures.sizes ∙ sym c.requires.table.sizes in
    let at_is : at ≡ bucket_at v0.sizes 0 = c.bucket_at-place.ensures.place ∙ ap (λ (y : Sizes). bucket_at y 0) sizes in
    let one : v0.sizes.buckets ≡ 1 = ap (λ (y : Sizes). y.buckets) c.requires.table.sizes ∙ c.requires.one in
    let none : index_of seen ≡ nowhere = sym c.index.ensures.index ∙ omega (arith, c.if-index-ne16777215.false) in
    may_link n key v0 v1 v2 x z s t stores v3 v4 at seen c.fill_vertex.ensures.filled c.open_pass.ensures.opened
    c.open_pass.ensures.table.sound c.load.ensures.looked at_is one none

pub close_pass-requires-clause-open : goal.close_pass-requires-clause-open
close_pass-requires-clause-open c =
    let v0 = c.args.token.now.view in
    let v1 = c.take.new.token.view in
    let v2 = c.fill_vertex.new.token.view in
    let x = c.in-Node.fresh in
    let n = c.args._steps in
    let key = c.args.key in
    let z = c.requires.table.layout in
    let s = c.requires.steady in
    let t = c.in-Node.ensures.taken in
    let stores = c.fill_vertex.ensures.makes in
    let v3 = c.open_pass.new.token.view in
    let v4 = c.load.new.token.view in
    let at = c.bucket_at-place.result in
    let seen = c.load.result in
    let sizes : c.layout-layout.result ≡ v0.sizes = c.layout-layout.ensures.sizes ∙ sym c.requires.table.sizes in
    let at_is : at ≡ bucket_at v0.sizes 0 = c.bucket_at-place.ensures.place ∙ ap (λ (y : Sizes). bucket_at y 0) sizes in
    let one : v0.sizes.buckets ≡ 1 = ap (λ (y : Sizes). y.buckets) c.requires.table.sizes ∙ c.requires.one in
    let none : index_of seen ≡ nowhere = sym c.index.ensures.index ∙ omega (arith, c.if-index-ne16777215.false) in
    let v5 = c.link_vertex.new.token.view in
    pass_then n key v0 v1 v2 x z s t stores v3 v4 at seen c.fill_vertex.ensures.filled c.open_pass.ensures.opened
    c.open_pass.ensures.table.sound c.load.ensures.looked at_is one none v5 _ _ c.load.ensures.table.sound
    c.in-Won.ensures.tried.1

pub returns-clause-steady : goal.returns-clause-steady
returns-clause-steady c =
    let v0 = c.args.token.now.view in
    let v1 = c.take.new.token.view in
    let v2 = c.fill_vertex.new.token.view in
    let x = c.in-Node.fresh in
    let n = c.args._steps in
    let key = c.args.key in
    let z = c.requires.table.layout in
    let s = c.requires.steady in
    let t = c.in-Node.ensures.taken in
    let stores = c.fill_vertex.ensures.makes in
    let v3 = c.open_pass.new.token.view in
    let v4 = c.load.new.token.view in
    let at = c.bucket_at-place.result in
    let seen = c.load.result in
    let sizes : c.layout-layout.result ≡ v0.sizes = c.layout-layout.ensures.sizes ∙ sym c.requires.table.sizes in
    let at_is : at ≡ bucket_at v0.sizes 0 = c.bucket_at-place.ensures.place ∙ ap (λ (y : Sizes). bucket_at y 0) sizes in
    let one : v0.sizes.buckets ≡ 1 = ap (λ (y : Sizes). y.buckets) c.requires.table.sizes ∙ c.requires.one in
    let none : index_of seen ≡ nowhere = sym c.index.ensures.index ∙ omega (arith, c.if-index-ne16777215.false) in
    let v5 = c.link_vertex.new.token.view in
    λ _. steady_added n key v0 v1 v2 x z s t stores v3 v4 at seen c.fill_vertex.ensures.filled
    c.open_pass.ensures.opened c.open_pass.ensures.table.sound c.load.ensures.looked at_is one none v5 _ _
    c.load.ensures.table.sound c.in-Won.ensures.tried.1 c.close_pass.new.token.view c.close_pass.ensures.makes
    c.close_pass.ensures.closed

pub returns-in_default-link_vertex-clause-none : goal.returns-in_default-link_vertex-clause-none
returns-in_default-link_vertex-clause-none c = λ _.
    let v0 = c.args.token.now.view in
    let v1 = c.take.new.token.view in
    let v2 = c.fill_vertex.new.token.view in
    let x = c.in-Node.fresh in
    let n = c.args._steps in
    let key = c.args.key in
    let z = c.requires.table.layout in
    let s = c.requires.steady in
    let t = c.in-Node.ensures.taken in
    let stores = c.fill_vertex.ensures.makes in
    let v3 = c.open_pass.new.token.view in
    let v4 = c.load.new.token.view in
    let at = c.bucket_at-place.result in
    let seen = c.load.result in
    let sizes : c.layout-layout.result ≡ v0.sizes = c.layout-layout.ensures.sizes ∙ sym c.requires.table.sizes in
    let at_is : at ≡ bucket_at v0.sizes 0 = c.bucket_at-place.ensures.place ∙ ap (λ (y : Sizes). bucket_at y 0) sizes in
    let one : v0.sizes.buckets ≡ 1 = ap (λ (y : Sizes). y.buckets) c.requires.table.sizes ∙ c.requires.one in
    let none : index_of seen ≡ nowhere = sym c.index.ensures.index ∙ omega (arith, c.if-index-ne16777215.false) in
    inr (inr (first_lost n key v0 v1 v2 x z s t stores v3 v4 at seen c.fill_vertex.ensures.filled
    c.open_pass.ensures.opened c.open_pass.ensures.table.sound c.load.ensures.looked at_is one none
    c.link_vertex.new.token.view c.in_default-link_vertex.field-1 c.load.ensures.table.sound
    c.in_default-link_vertex.ensures.tried.1))

pub returns-clause-links : goal.returns-clause-links
returns-clause-links c = λ _.
    let v0 = c.args.token.now.view in
    let v1 = c.take.new.token.view in
    let v2 = c.fill_vertex.new.token.view in
    let x = c.in-Node.fresh in
    let n = c.args._steps in
    let key = c.args.key in
    let z = c.requires.table.layout in
    let s = c.requires.steady in
    let t = c.in-Node.ensures.taken in
    let stores = c.fill_vertex.ensures.makes in
    let v3 = c.open_pass.new.token.view in
    let v4 = c.load.new.token.view in
    let at = c.bucket_at-place.result in
    let seen = c.load.result in
    let sizes : c.layout-layout.result ≡ v0.sizes = c.layout-layout.ensures.sizes ∙ sym c.requires.table.sizes in
    let at_is : at ≡ bucket_at v0.sizes 0 = c.bucket_at-place.ensures.place ∙ ap (λ (y : Sizes). bucket_at y 0) sizes in
    let one : v0.sizes.buckets ≡ 1 = ap (λ (y : Sizes). y.buckets) c.requires.table.sizes ∙ c.requires.one in
    let none : index_of seen ≡ nowhere = sym c.index.ensures.index ∙ omega (arith, c.if-index-ne16777215.false) in
    links_one n key v0 v1 v2 x z s t stores v3 v4 at seen c.fill_vertex.ensures.filled c.open_pass.ensures.opened
    c.open_pass.ensures.table.sound c.load.ensures.looked at_is one none c.link_vertex.new.token.view _ _
    c.load.ensures.table.sound c.in-Won.ensures.tried.1 c.close_pass.new.token.view c.close_pass.ensures.makes
