use Rattle.std.proofs.Common.{◌≡◌, ℕ, ◌<◌, ap, sym, ◌∙◌, subst}
use Rattle.packed_link.specs.Link.{index_of}
use Rattle.packed_link.specs.Layout.{free_at}
use Rattle.core_rule.specs.Fronts.{MayStoreFree}
use Rattle.core_rule.specs.OwnEvents.{store_free_event}
use Rattle.core_rule.specs.Plays.{Stored}
use Rattle.node_arena.proofs.FreeWordSeen.{has_seen}
use Rattle.node_arena.proofs.NodeIsGivenBack.{may_store_free, may_push, given, give_lost}
use Rattle.node_arena.proofs.giving.give_back.Goals as goal

pub store_free-requires-clause-may : goal.store_free-requires-clause-may
store_free-requires-clause-may c =
    let v = c.args.token.now.view in
    let m = c.load.new.token.view in
    let x = c.args.ripe.life in
    let seen = c.load.result in
    let sizes : c.layout-layout.result ≡ v.sizes = c.layout-layout.ensures.sizes ∙ sym c.requires.table.sizes in
    let h = has_seen v m c.free_at.result seen c.requires.number c.requires.table.sound c.load.ensures.looked
    (c.free_at.ensures.place ∙ ap free_at sizes) in
    subst (λ (i : ℕ). MayStoreFree m i x) (sym c.index-next.ensures.index)
    (may_store_free v m seen x c.requires.table.layout h c.load.ensures.table.sound c.requires.number
    c.requires.ripe)

pub push_free-requires-clause-may : goal.push_free-requires-clause-may
push_free-requires-clause-may c =
    let v = c.args.token.now.view in
    let m = c.load.new.token.view in
    let x = c.args.ripe.life in
    let seen = c.load.result in
    let sizes : c.layout-layout.result ≡ v.sizes = c.layout-layout.ensures.sizes ∙ sym c.requires.table.sizes in
    let h = has_seen v m c.free_at.result seen c.requires.number c.requires.table.sound c.load.ensures.looked
    (c.free_at.ensures.place ∙ ap free_at sizes) in
    let u = c.store_free.new.token.view in
    let st : Stored m (store_free_event m (index_of seen) x) u = subst
    (λ (i : ℕ). Stored m (store_free_event m i x) u) c.index-next.ensures.index c.store_free.ensures.stored in
    may_push v m seen x c.requires.table.layout h c.load.ensures.table.sound c.requires.number c.requires.ripe u st
    (subst (λ (i : ℕ). i < 16777216) c.index-next.ensures.index c.index-next.ensures.bound)

pub returns-in-Won-clause-given : goal.returns-in-Won-clause-given
returns-in-Won-clause-given c =
    let v = c.args.token.now.view in
    let m = c.load.new.token.view in
    let x = c.args.ripe.life in
    let seen = c.load.result in
    let sizes : c.layout-layout.result ≡ v.sizes = c.layout-layout.ensures.sizes ∙ sym c.requires.table.sizes in
    let h = has_seen v m c.free_at.result seen c.requires.number c.requires.table.sound c.load.ensures.looked
    (c.free_at.ensures.place ∙ ap free_at sizes) in
    let u = c.store_free.new.token.view in
    let st : Stored m (store_free_event m (index_of seen) x) u = subst
    (λ (i : ℕ). Stored m (store_free_event m i x) u) c.index-next.ensures.index c.store_free.ensures.stored in
    given v m seen x c.requires.table.layout h c.load.ensures.table.sound c.requires.number c.requires.ripe u st
    c.push_free.new.token.view _ c.store_free.ensures.table.sound c.in-Won.ensures.tried

pub returns-in-Lost-clause-given : goal.returns-in-Lost-clause-given
returns-in-Lost-clause-given c =
    let v = c.args.token.now.view in
    let m = c.load.new.token.view in
    let x = c.args.ripe.life in
    let seen = c.load.result in
    let sizes : c.layout-layout.result ≡ v.sizes = c.layout-layout.ensures.sizes ∙ sym c.requires.table.sizes in
    let h = has_seen v m c.free_at.result seen c.requires.number c.requires.table.sound c.load.ensures.looked
    (c.free_at.ensures.place ∙ ap free_at sizes) in
    let u = c.store_free.new.token.view in
    let st : Stored m (store_free_event m (index_of seen) x) u = subst
    (λ (i : ℕ). Stored m (store_free_event m i x) u) c.index-next.ensures.index c.store_free.ensures.stored in (
      c.in-Lost.ensures.tried.0,
      give_lost v m seen x c.requires.table.layout h c.load.ensures.table.sound
          c.requires.number c.requires.ripe u st c.push_free.new.token.view _ _ c.store_free.ensures.table.sound
          (ap free_at (sym c.store_free.ensures.table.sizes)) c.in-Lost.ensures.tried.1,
    )
