use Rattle.std.proofs.Common.{◌≡◌, ℕ, ◌<◌, ap, ap₂, sym, ◌∙◌, subst, arith}
use Rattle.packed_link.specs.Link.{index_of}
use Rattle.packed_link.specs.Layout.{Sizes, free_at, link_at}
use Rattle.core_rule.specs.OwnEvents.{pop_event}
use Rattle.core_rule.specs.Plays.{Won}
use Rattle.node_arena.proofs.FreeWordSeen.{has_seen, leads_to_node}
use Rattle.node_arena.proofs.NodeIsTaken.{found_empty, may_pop, taken, take_lost}
use Rattle.node_arena.proofs.taking.take.Goals as goal

pub returns-then-index-eq-NOWHERE-clause-taken : goal.returns-then-index-eq-NOWHERE-clause-taken
returns-then-index-eq-NOWHERE-clause-taken c =
    let v = c.args.token.now.view in
    let m = c.load.new.token.view in
    let sizes : c.layout-layout.result ≡ v.sizes = c.layout-layout.ensures.sizes ∙ sym c.requires.table.sizes in
    let h = has_seen v m c.free_at.result c.load.result c.requires.number c.requires.table.sound c.load.ensures.looked
    (c.free_at.ensures.place ∙ ap free_at sizes) in
    found_empty v m c.load.result h (sym c.index-index.ensures.index ∙ omega (arith, c.if-index-eq-NOWHERE.true))

pub link_at-requires : goal.link_at-requires
link_at-requires c =
    let v = c.args.token.now.view in
    let m = c.load.new.token.view in
    let sizes : c.layout-layout.result ≡ v.sizes = c.layout-layout.ensures.sizes ∙ sym c.requires.table.sizes in
    let h = has_seen v m c.free_at.result c.load.result c.requires.number c.requires.table.sound c.load.ensures.looked
    (c.free_at.ensures.place ∙ ap free_at sizes) in
    let some : index_of c.load.result < v.sizes.nodes = leads_to_node v m c.load.result c.requires.table.layout h
    (λ e. omega (arith, c.index-index.ensures.index, c.if-index-eq-NOWHERE.false, e)) in
    let nodes : c.layout-layout.result.nodes ≡ v.sizes.nodes = ap (λ (z : Sizes). z.nodes) sizes in
    omega (arith, some, c.index-index.ensures.index, nodes)

pub pop_free-requires-clause-may : goal.pop_free-requires-clause-may
pop_free-requires-clause-may c =
    let v = c.args.token.now.view in
    let m = c.load.new.token.view in
    let sizes : c.layout-layout.result ≡ v.sizes = c.layout-layout.ensures.sizes ∙ sym c.requires.table.sizes in
    let h = has_seen v m c.free_at.result c.load.result c.requires.number c.requires.table.sound c.load.ensures.looked
    (c.free_at.ensures.place ∙ ap free_at sizes) in
    let some : index_of c.load.result < v.sizes.nodes = leads_to_node v m c.load.result c.requires.table.layout h
    (λ e. omega (arith, c.index-index.ensures.index, c.if-index-eq-NOWHERE.false, e)) in
    let k = c.load-2.new.token.view in
    let at : c.link_at.result ≡ link_at v.sizes (index_of c.load.result) = c.link_at.ensures.place
    ∙ ap₂ link_at sizes c.index-index.ensures.index in
    may_pop v m k c.load.result c.link_at.result c.load-2.result c.requires.table.layout h c.load.ensures.table.sound
    c.requires.number c.load-2.ensures.looked at some c.requires.none c.requires.limit

pub returns-in-Won-clause-taken : goal.returns-in-Won-clause-taken
returns-in-Won-clause-taken c =
    let v = c.args.token.now.view in
    let m = c.load.new.token.view in
    let sizes : c.layout-layout.result ≡ v.sizes = c.layout-layout.ensures.sizes ∙ sym c.requires.table.sizes in
    let h = has_seen v m c.free_at.result c.load.result c.requires.number c.requires.table.sound c.load.ensures.looked
    (c.free_at.ensures.place ∙ ap free_at sizes) in
    let some : index_of c.load.result < v.sizes.nodes = leads_to_node v m c.load.result c.requires.table.layout h
    (λ e. omega (arith, c.index-index.ensures.index, c.if-index-eq-NOWHERE.false, e)) in
    let k = c.load-2.new.token.view in
    let at : c.link_at.result ≡ link_at v.sizes (index_of c.load.result) = c.link_at.ensures.place
    ∙ ap₂ link_at sizes c.index-index.ensures.index in
    let place : free_at c.args.table.now.sizes ≡ free_at k.sizes = ap free_at (sym c.load-2.ensures.table.sizes) in
    taken v m k c.load.result c.link_at.result c.load-2.result c.requires.table.layout h c.load.ensures.table.sound
    c.requires.number c.load-2.ensures.looked at some c.pop_free.new.token.view c.load-2.ensures.table.sound
    (subst (λ (p : ℕ). Won k p c.load.result (pop_event k c.load.result c.load-2.result) c.pop_free.new.token.view)
    place c.in-Won.ensures.popped.1) c.in-Won.fresh c.in-Won.ensures.popped.0

pub returns-in-Lost-clause-taken : goal.returns-in-Lost-clause-taken
returns-in-Lost-clause-taken c =
    let v = c.args.token.now.view in
    let m = c.load.new.token.view in
    let sizes : c.layout-layout.result ≡ v.sizes = c.layout-layout.ensures.sizes ∙ sym c.requires.table.sizes in
    let h = has_seen v m c.free_at.result c.load.result c.requires.number c.requires.table.sound c.load.ensures.looked
    (c.free_at.ensures.place ∙ ap free_at sizes) in
    let some : index_of c.load.result < v.sizes.nodes = leads_to_node v m c.load.result c.requires.table.layout h
    (λ e. omega (arith, c.index-index.ensures.index, c.if-index-eq-NOWHERE.false, e)) in
    let k = c.load-2.new.token.view in
    let at : c.link_at.result ≡ link_at v.sizes (index_of c.load.result) = c.link_at.ensures.place
    ∙ ap₂ link_at sizes c.index-index.ensures.index in
    take_lost v m k c.load.result c.link_at.result c.load-2.result c.requires.table.layout h c.load.ensures.table.sound
    c.requires.number c.load-2.ensures.looked at some c.pop_free.new.token.view _
    (free_at c.args.table.now.sizes) c.load-2.ensures.table.sound
    (ap free_at (sym c.load-2.ensures.table.sizes)) c.in-Lost.ensures.popped
