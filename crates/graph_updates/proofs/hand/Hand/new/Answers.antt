use Rattle.std.proofs.Common.{◌≡◌, ◌≢◌, ◌≤◌, ap, arith, refl, sym, ◌∙◌}
use Rattle.packed_link.specs.Layout.{Sizes, number_at}
use Rattle.core_rule.specs.declared.view.View.{View}
use Rattle.epoch_limbo.specs.Limbos.{LimboValue}
use Rattle.graph_updates.proofs.NewHands.{hand_closed, new_of, new_order, number_left, refused}
use Rattle.graph_updates.proofs.hand.Hand.new.Goals as goal

pub returns-in_default-clause-refused : goal.returns-in_default-clause-refused
returns-in_default-clause-refused c = refused c.args.table.now c.args.token c.requires.table

pub draw_number-requires-clause-left : goal.draw_number-requires-clause-left
draw_number-requires-clause-left c =
    let v = c.args.token.view in
    let sizes : c.layout-layout.result ≡ v.sizes = c.layout-layout.ensures.sizes ∙ sym c.requires.table.sizes in
    let callers : c.from.result ≡ v.sizes.callers = c.from.ensures
    ∙ (c.callers.ensures.callers ∙ ap (λ (s : Sizes). s.callers) sizes) in
    let other : c.load-drawn.result ≢ v.sizes.callers = λ is. c.if-drawn-from.false (is ∙ sym callers) in
    number_left v c.load-drawn.new.token.view c.number_at.result c.load-drawn.result c.requires.right
    c.load-drawn.ensures.looked (c.number_at.ensures.place ∙ ap number_at sizes) other

pub returns-clause-hand : goal.returns-clause-hand
returns-clause-hand c =
    let v = c.args.token.view in
    let m = c.load-drawn.new.token.view in
    let looked = c.load-drawn.ensures.looked in
    let sizes : c.layout-layout.result ≡ v.sizes = c.layout-layout.ensures.sizes ∙ sym c.requires.table.sizes in
    let callers : c.from.result ≡ v.sizes.callers = c.from.ensures
    ∙ (c.callers.ensures.callers ∙ ap (λ (s : Sizes). s.callers) sizes) in
    let other : c.load-drawn.result ≢ v.sizes.callers = λ is. c.if-drawn-from.false (is ∙ sym callers) in
    let left = number_left v m c.number_at.result c.load-drawn.result c.requires.right looked
    (c.number_at.ensures.place ∙ ap number_at sizes) other in
    let nodes : c.nodes.result ≡ v.sizes.nodes = c.nodes.ensures.nodes ∙ ap (λ (s : Sizes). s.nodes) sizes in
    let made = ap (λ (l : LimboValue). l.room) c.in-Ok.ensures.made in
    let later : m.sizes.nodes ≡ v.sizes.nodes = ap (λ (u : View). u.sizes.nodes) looked.view in
    let room : m.sizes.nodes ≤ c.in-Ok.limbo.room = omega (arith, nodes, made, later) in
    new_of m c.draw_number.new.token.view c.draw_number.result c.draw_number.ensures.drew c.args.table.now
    c.draw_number.new.token c.in-Ok.limbo refl (ap (λ (l : LimboValue). l.nodes) c.in-Ok.ensures.made)
    c.draw_number.ensures.table left room

pub returns-clause-order : goal.returns-clause-order
returns-clause-order c =
    let m = c.load-drawn.new.token.view in
    new_order m c.draw_number.new.token.view c.draw_number.result c.draw_number.ensures.drew c.args.table.now
    c.draw_number.new.token c.in-Ok.limbo refl (ap (λ (l : LimboValue). l.nodes) c.in-Ok.ensures.made)
    (ap (λ (u : View). u.book) c.load-drawn.ensures.looked.view ∙ c.requires.empty)

pub returns-clause-closed : goal.returns-clause-closed
returns-clause-closed c =
    let m = c.load-drawn.new.token.view in
    hand_closed m c.draw_number.new.token.view c.draw_number.result c.draw_number.ensures.drew c.args.table.now
    c.draw_number.new.token c.in-Ok.limbo refl (ap (λ (l : LimboValue). l.nodes) c.in-Ok.ensures.made)
