use Rattle.std.proofs.Common.{◌≡◌, ap, sym, ◌∙◌}
use Rattle.packed_link.specs.Layout.{epoch_at}
use Rattle.epoch_limbo.proofs.EpochSeen.{has_seen, may_announce, is_opened}
use Rattle.epoch_limbo.proofs.passes.open_pass.Goals as goal

pub announce-requires-clause-may : goal.announce-requires-clause-may
announce-requires-clause-may c =
    let v = c.args.token.now.view in
    let m = c.load-epoch.new.token.view in
    let sizes : c.layout-layout.result ≡ v.sizes = c.layout-layout.ensures.sizes ∙ sym c.requires.table.sizes in
    let h = has_seen v m c.epoch_at.result c.load-epoch.result c.requires.number c.requires.table.sound
    c.load-epoch.ensures.looked (c.epoch_at.ensures.place ∙ ap epoch_at sizes) in
    may_announce v m c.load-epoch.result h c.requires.there c.requires.closed

pub returns-clause-opened : goal.returns-clause-opened
returns-clause-opened c =
    let v = c.args.token.now.view in
    let m = c.load-epoch.new.token.view in
    let sizes : c.layout-layout.result ≡ v.sizes = c.layout-layout.ensures.sizes ∙ sym c.requires.table.sizes in
    let h = has_seen v m c.epoch_at.result c.load-epoch.result c.requires.number c.requires.table.sound
    c.load-epoch.ensures.looked (c.epoch_at.ensures.place ∙ ap epoch_at sizes) in
    is_opened v m c.announce.new.token.view c.load-epoch.result h c.requires.number c.load-epoch.ensures.table.sound
    c.announce.ensures.stored
