use Rattle.std.proofs.Common.{refl, subst}
use Rattle.epoch_limbo.specs.Limbos.{IsPutBack, LimboValue}
use Rattle.epoch_limbo.proofs.LimboStays.{is_put_back}
use Rattle.epoch_limbo.proofs.limbo.Limbo.put_back.Goals as goal

pub returns : goal.returns
returns c =
    let old : LimboValue = record { nodes = c.self.inside.nodes.items; room = c.self.inside.room } in
    let new : LimboValue = record { nodes = c.push_front_reserved.new.self.items; room = c.self.inside.room } in
    record {
      back = subst (λ (o : LimboValue). IsPutBack o new c.args.ripe) c.self.view_is
          (is_put_back old new c.args.ripe c.push_front_reserved.ensures.items refl);
    }
