use Rattle.std.proofs.Common.{◌≡◌, [], ◌∷◌, ◌++◌, refl, ap, sym, subst, ◌∙◌}
use Rattle.packed_link.specs.Layout.{epoch_at}
use Rattle.graph_table.specs.Tokens.{RipeValue}
use Rattle.epoch_limbo.specs.Limbos.{IsRetiredInto, LimboValue}
use Rattle.epoch_limbo.proofs.LimboStays.{is_retired_into}
use Rattle.epoch_limbo.proofs.limbo.Limbo.retire.Goals as goal

pub returns-clause-retired : goal.returns-clause-retired
returns-clause-retired c =
    let v = c.args.token.now.view in
    let w = c.load-epoch.new.token.view in
    let old : LimboValue = record { nodes = c.self.inside.nodes.items; room = c.self.inside.room } in
    let new : LimboValue = record { nodes = c.push_back_reserved.new.self.items; room = c.self.inside.room } in
    let at = c.epoch_at.ensures.place ∙ ap epoch_at (c.layout-layout.ensures.sizes ∙ sym c.requires.table.sizes) in
    let nodes : new.nodes ≡ old.nodes ++ record { life = c.args.spent; stamp = c.load-epoch.result } ∷ [] =
    c.push_back_reserved.ensures.items ∙ ap (λ (r : RipeValue). old.nodes ++ r ∷ []) c.ripen.ensures.ripe in
    subst (λ (o : LimboValue). IsRetiredInto o new v w c.args.spent) c.self.view_is
    (is_retired_into v w old new c.args.spent c.epoch_at.result c.load-epoch.result c.requires.table.layout
    c.requires.number c.requires.table.sound c.load-epoch.ensures.looked at nodes refl)
