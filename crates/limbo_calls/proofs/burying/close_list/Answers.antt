use Rattle.std.proofs.Common.{◌≡◌, ap₂, sym, ◌∙◌, false, true}
use borrow.Author.Tests.{eqb-true}
use Rattle.packed_link.specs.Link.{mark_of}
use Rattle.packed_link.specs.Layout.{Sizes, second_at}
use Rattle.packed_link.specs.declared.link.Life.{Life}
use Rattle.limbo_calls.proofs.StaysSteady.{low_mark}
use Rattle.limbo_calls.proofs.ListIsClosed.{steady_closed, is_retirable}
use Rattle.limbo_calls.proofs.burying.close_list.Goals as goal

pub returns-clause-steady : goal.returns-clause-steady
returns-clause-steady c =
    let v = c.args.token.now.view in
    let m = c.freeze_head.new.token.view in
    let w = c.load.new.token.view in
    let x = c.args.spent.now in
    let found = c.freeze_head.result in
    let unmarked : mark_of found ≡ 0 = low_mark found (λ one. let t : false ≡ true = c.if-marked.ensures.1 one in absurd
    (cc)) in
    let won = c.freeze_head.ensures.marked.won unmarked in
    λ _. steady_closed c.args._steps v m w x _ found c.second_at.result c.load.result c.requires.table.layout
    c.requires.table.sound c.requires.steady c.requires.unlinked won c.freeze_head.ensures.table.sound
    c.load.ensures.looked

pub returns-clause-closed : goal.returns-clause-closed
returns-clause-closed c =
    let v = c.args.token.now.view in
    let m = c.freeze_head.new.token.view in
    let w = c.load.new.token.view in
    let x = c.args.spent.now in
    let found = c.freeze_head.result in
    let unmarked : mark_of found ≡ 0 = low_mark found (λ one. let t : false ≡ true = c.if-marked.ensures.1 one in absurd
    (cc)) in
    let won = c.freeze_head.ensures.marked.won unmarked in
    let sizes : c.layout-layout.result ≡ v.sizes = c.layout-layout.ensures.sizes ∙ sym c.requires.table.sizes in
    let at_is : c.second_at.result ≡ second_at v.sizes x.index = c.second_at.ensures.place ∙ ap₂
    (λ (y : Sizes) (l : Life). second_at y l.index) sizes c.life-life.ensures.life in
    λ is. is_retirable c.args._steps v m w x _ found c.second_at.result c.load.result c.requires.table.layout
    c.requires.table.sound c.requires.steady c.requires.unlinked won c.freeze_head.ensures.table.sound
    c.load.ensures.looked at_is (sym c.index.ensures.index ∙ eqb-true c.index.result 16777215 is)
