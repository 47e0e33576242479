use Rattle.std.proofs.Common.{rules, ◌≡◌, ◌-◌, ◌<◌, ◌≤◌, length, refl, sym, subst, arith, None}
use Rattle.std.specs.Prelude.{slice_index_or}
use Rattle.epoch_limbo.specs.Limbos.{IsLimboOf, IsNoneRipe, LimboValue, MatchRipe}
use Rattle.epoch_limbo.proofs.LimboStays.{ripe_first, young_first}
use Rattle.epoch_limbo.proofs.limbo.Limbo.ripe.Goals as goal

pub returns-then-age-lt-RIPE : goal.returns-then-age-lt-RIPE
returns-then-age-lt-RIPE c =
    let v = c.args.token.now.view in
    let old : LimboValue = record { nodes = c.self.inside.nodes.items; room = c.self.inside.room } in
    let r = c.in-Some.first.now in
    let h : IsLimboOf None v old.nodes = subst (λ (o : LimboValue). IsLimboOf None v o.nodes)
    (sym c.self.view_is) c.requires.limbo in
    let is : r ≡ slice_index_or old.nodes 0 r = c.in-Some.ensures.lookup in
    let some : 0 < length old.nodes = search rules in
    let age : c.args.epoch - r.stamp < 2 = omega (
      arith,
      c.saturating_sub-age.ensures,
      c.stamp.ensures.stamp,
      c.if-age-lt-RIPE.true,
    ) in
    record {
      ripe = subst (λ (o : LimboValue). IsNoneRipe o o c.args.epoch) c.self.view_is
          (young_first old v c.args.epoch r c.requires.shown h some is age);
    }

pub returns : goal.returns
returns c =
    let v = c.args.token.now.view in
    let old : LimboValue = record { nodes = c.self.inside.nodes.items; room = c.self.inside.room } in
    let new : LimboValue = record { nodes = c.pop_front.new.self.items; room = c.self.inside.room } in
    let r = c.in-Some.first.now in
    let h : IsLimboOf None v old.nodes = subst (λ (o : LimboValue). IsLimboOf None v o.nodes)
    (sym c.self.view_is) c.requires.limbo in
    let is : r ≡ slice_index_or old.nodes 0 r = c.in-Some.ensures.lookup in
    let some : 0 < length old.nodes = search rules in
    let age : 2 ≤ c.args.epoch - r.stamp = omega (
      arith,
      c.saturating_sub-age.ensures,
      c.stamp.ensures.stamp,
      c.if-age-lt-RIPE.false,
    ) in
    let found = c.pop_front.ensures.value r (search rules) in
    record {
      ripe = subst (λ (o : LimboValue). MatchRipe c.pop_front.result o new v c.args.epoch) c.self.view_is
          (ripe_first old v c.args.epoch r c.requires.shown h some is new c.pop_front.result age found
          c.pop_front.ensures.rest refl);
    }
