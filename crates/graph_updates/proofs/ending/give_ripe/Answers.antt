use Rattle.std.proofs.Common.{◌≡◌, ap, sym, ◌∙◌}
use Rattle.packed_link.specs.Layout.{epoch_at}
use Rattle.graph_updates.proofs.GivingTells.{giving_begins, giving_lost, giving_more, giving_number}
use Rattle.graph_updates.proofs.ending.give_ripe.Goals as goal

pub loop-init : goal.loop-init
loop-init c =
    let v = c.args.token.now.view in
    let sizes : c.layout-layout.result ≡ v.sizes = c.layout-layout.ensures.sizes ∙ sym c.requires.table.sizes in
    giving_begins c.args.table.now c.args.limbo.now v c.load-epoch.new.token c.epoch_at.result c.load-epoch.result
    c.requires.number c.requires.table.sound c.requires.table.layout c.requires.limbo c.load-epoch.ensures.table
    c.load-epoch.ensures.looked (c.epoch_at.ensures.place ∙ ap epoch_at sizes)

pub give_one-requires-clause-number : goal.give_one-requires-clause-number
give_one-requires-clause-number c = giving_number c.args.table.now c.load-epoch.result c.args.limbo.now c.loop.limbo
    c.args.token.now.view c.loop.token c.loop.invariant c.requires.number

pub loop-preserved : goal.loop-preserved
loop-preserved c = giving_more c.args.table.now c.load-epoch.result c.args.limbo.now c.loop.limbo c.args.token.now.view
    c.loop.token c.loop.invariant c.give_one.new.limbo c.give_one.new.token c.in-Given.ensures.given.0
    c.in-Given.ensures.table

pub returns-in-Lost-clause-given : goal.returns-in-Lost-clause-given
returns-in-Lost-clause-given c = giving_lost c.args.table.now c.load-epoch.result c.args.limbo.now c.loop.limbo
    c.args.token.now.view c.loop.token c.loop.invariant c.give_one.new.limbo c.give_one.new.token
    c.in-Lost.ensures.given.0 c.in-Lost.ensures.given.1
