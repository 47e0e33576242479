use Rattle.std.proofs.Common.{◌+◌, ◌<◌, ◌≤◌, ◌^◌, ℕ, ap, arith, subst, sym}
use Rattle.core_stretches.specs.Holdings.{HasNoPass}
use Rattle.graph_updates.specs.Hands.{HandValue, IsHandOf, IsInOrder}
use Rattle.graph_updates.specs.Parts.{Fell}
use Rattle.graph_updates.specs.contracts.hand.Hand.{the_view}
use Rattle.graph_updates.proofs.SettlingTells.{IsSettling, gave_ripe, settled_at, settled_goes}
use Rattle.graph_updates.proofs.SettlingTells.{settled_order, settling, settling_begins, settling_goes, twice_limit}
use Rattle.graph_updates.proofs.ending.settle.Goals as goal

pub advance_twice-requires-clause-limit : goal.advance_twice-requires-clause-limit
advance_twice-requires-clause-limit c =
    twice_limit (the_view c.hand.inside) (subst IsInOrder (sym c.hand.view_is) c.requires.order)

pub loop-hand-init : goal.loop-hand-init
loop-hand-init c =
    let g = c.args.table.now in
    let old = the_view c.hand.inside in
    let h = subst (λ (k : HandValue). IsHandOf g k) (sym c.hand.view_is) c.requires.hand in
    let closed = subst (λ (k : HandValue). HasNoPass k.token.view) (sym c.hand.view_is) c.requires.closed in
    let m = c.advance_twice.new.token in
    let both = c.advance_twice.ensures.twice in
    let of = c.advance_twice.ensures.table in
    record {
      settling = subst (λ (k : HandValue). IsSettling g k (settling g old h closed m both of) 0) c.hand.view_is
          (settling_begins g old h closed m both of);
      low = c.requires.some;
    }

pub give_ripe-epoch-requires-clause-table : goal.give_ripe-epoch-requires-clause-table
give_ripe-epoch-requires-clause-table c =
    c.loop-hand.invariant.settling.hand.of

pub give_ripe-epoch-requires-clause-number : goal.give_ripe-epoch-requires-clause-number
give_ripe-epoch-requires-clause-number c =
    c.loop-hand.invariant.settling.hand.numbered

pub give_ripe-epoch-requires-clause-limbo : goal.give_ripe-epoch-requires-clause-limbo
give_ripe-epoch-requires-clause-limbo c =
    c.loop-hand.invariant.settling.hand.limbo

pub invariant_of-hand : goal.invariant_of-hand
invariant_of-hand c =
    let g = c.args.table.now in
    let old = c.args.hand.now in
    let now = the_view c.loop-hand.hand-inside in
    let i = c.loop-hand.invariant.settling in
    let same = ap (λ (k : HandValue). k.uses) c.hand.view_is in
    let most : c.hand.inside.uses ≤ 2 ^ 32 = c.hand.invariant in
    let left : c.args.hand.now.uses < 2 ^ 32 = let no = c.if-hand-eq-USES.false in omega (arith, no, most, same) in
    let uses = i.settled.uses in
    omega (arith, uses, left)

pub returns-then-none_ripe-clause-hand : goal.returns-then-none_ripe-clause-hand
returns-then-none_ripe-clause-hand c =
    let g = c.args.table.now in
    let old = c.args.hand.now in
    let now = the_view c.loop-hand.hand-inside in
    let i = c.loop-hand.invariant.settling in
    let epoch = c.give_ripe-epoch.result.0 in
    let none = c.give_ripe-epoch.result.1 in
    let limbo = c.give_ripe-epoch.new.limbo in
    let u = c.give_ripe-epoch.new.token in
    let b = c.give_ripe-epoch.ensures.given in
    let of = c.give_ripe-epoch.ensures.table in
    let j = settling_goes g old now c.loop-hand.lost i epoch none limbo u b of 0 (record { least = omega arith }) in
    j.hand

pub returns-then-none_ripe-clause-order : goal.returns-then-none_ripe-clause-order
returns-then-none_ripe-clause-order c =
    let g = c.args.table.now in
    let old = c.args.hand.now in
    let now = the_view c.loop-hand.hand-inside in
    let i = c.loop-hand.invariant.settling in
    let epoch = c.give_ripe-epoch.result.0 in
    let none = c.give_ripe-epoch.result.1 in
    let limbo = c.give_ripe-epoch.new.limbo in
    let u = c.give_ripe-epoch.new.token in
    let b = c.give_ripe-epoch.ensures.given in
    let of = c.give_ripe-epoch.ensures.table in
    let new = gave_ripe g old now c.loop-hand.lost i epoch none limbo u b of in
    let j = settling_goes g old now c.loop-hand.lost i epoch none limbo u b of 0 (record { least = omega arith }) in
    let same = ap (λ (k : HandValue). k.uses) c.hand.view_is in
    let most : c.hand.inside.uses ≤ 2 ^ 32 = c.hand.invariant in
    let left : c.args.hand.now.uses < 2 ^ 32 = let no = c.if-hand-eq-USES.false in omega (arith, no, most, same) in
    settled_order g old new (c.loop-hand.lost + 0) c.requires.hand
    c.requires.closed j left c.requires.order

pub returns-then-none_ripe-clause-closed : goal.returns-then-none_ripe-clause-closed
returns-then-none_ripe-clause-closed c =
    let g = c.args.table.now in
    let old = c.args.hand.now in
    let now = the_view c.loop-hand.hand-inside in
    let i = c.loop-hand.invariant.settling in
    let epoch = c.give_ripe-epoch.result.0 in
    let none = c.give_ripe-epoch.result.1 in
    let limbo = c.give_ripe-epoch.new.limbo in
    let u = c.give_ripe-epoch.new.token in
    let b = c.give_ripe-epoch.ensures.given in
    let of = c.give_ripe-epoch.ensures.table in
    let j = settling_goes g old now c.loop-hand.lost i epoch none limbo u b of 0 (record { least = omega arith }) in
    j.closed

pub returns-then-none_ripe-clause-settled : goal.returns-then-none_ripe-clause-settled
returns-then-none_ripe-clause-settled c =
    let g = c.args.table.now in
    let old = c.args.hand.now in
    let now = the_view c.loop-hand.hand-inside in
    let i = c.loop-hand.invariant.settling in
    let epoch = c.give_ripe-epoch.result.0 in
    let none = c.give_ripe-epoch.result.1 in
    let limbo = c.give_ripe-epoch.new.limbo in
    let u = c.give_ripe-epoch.new.token in
    let b = c.give_ripe-epoch.ensures.given in
    let of = c.give_ripe-epoch.ensures.table in
    let same = ap (λ (k : HandValue). k.uses) c.hand.view_is in
    let most : c.hand.inside.uses ≤ 2 ^ 32 = c.hand.invariant in
    let left : c.args.hand.now.uses < 2 ^ 32 = let no = c.if-hand-eq-USES.false in omega (arith, no, most, same) in (
      left,
      (
        settled_goes g old now c.loop-hand.lost i epoch none limbo u b of,
        settled_at g old now c.loop-hand.lost i epoch none limbo u b of c.requires.hand c.if-none_ripe.true,
      ),
    )

pub overflow_add-lost : goal.overflow_add-lost
overflow_add-lost c =
    let low = c.loop-hand.invariant.low in
    omega (arith, low, c.ranges.tries)

pub invariant_of-hand-then-lost-tries : goal.invariant_of-hand-then-lost-tries
invariant_of-hand-then-lost-tries c =
    let g = c.args.table.now in
    let old = c.args.hand.now in
    let now = the_view c.loop-hand.hand-inside in
    let i = c.loop-hand.invariant.settling in
    let same = ap (λ (k : HandValue). k.uses) c.hand.view_is in
    let most : c.hand.inside.uses ≤ 2 ^ 32 = c.hand.invariant in
    let left : c.args.hand.now.uses < 2 ^ 32 = let no = c.if-hand-eq-USES.false in omega (arith, no, most, same) in
    let uses = i.settled.uses in
    omega (arith, uses, left)

pub returns-then-lost-tries-clause-hand : goal.returns-then-lost-tries-clause-hand
returns-then-lost-tries-clause-hand c =
    let g = c.args.table.now in
    let old = c.args.hand.now in
    let now = the_view c.loop-hand.hand-inside in
    let i = c.loop-hand.invariant.settling in
    let epoch = c.give_ripe-epoch.result.0 in
    let none = c.give_ripe-epoch.result.1 in
    let limbo = c.give_ripe-epoch.new.limbo in
    let u = c.give_ripe-epoch.new.token in
    let b = c.give_ripe-epoch.ensures.given in
    let of = c.give_ripe-epoch.ensures.table in
    let j = settling_goes g old now c.loop-hand.lost i epoch none limbo u b of 1 (b.lost c.if-none_ripe.false) in
    j.hand

pub returns-then-lost-tries-clause-order : goal.returns-then-lost-tries-clause-order
returns-then-lost-tries-clause-order c =
    let g = c.args.table.now in
    let old = c.args.hand.now in
    let now = the_view c.loop-hand.hand-inside in
    let i = c.loop-hand.invariant.settling in
    let epoch = c.give_ripe-epoch.result.0 in
    let none = c.give_ripe-epoch.result.1 in
    let limbo = c.give_ripe-epoch.new.limbo in
    let u = c.give_ripe-epoch.new.token in
    let b = c.give_ripe-epoch.ensures.given in
    let of = c.give_ripe-epoch.ensures.table in
    let new = gave_ripe g old now c.loop-hand.lost i epoch none limbo u b of in
    let j = settling_goes g old now c.loop-hand.lost i epoch none limbo u b of 1 (b.lost c.if-none_ripe.false) in
    let same = ap (λ (k : HandValue). k.uses) c.hand.view_is in
    let most : c.hand.inside.uses ≤ 2 ^ 32 = c.hand.invariant in
    let left : c.args.hand.now.uses < 2 ^ 32 = let no = c.if-hand-eq-USES.false in omega (arith, no, most, same) in
    settled_order g old new (c.loop-hand.lost + 1) c.requires.hand
    c.requires.closed j left c.requires.order

pub returns-then-lost-tries-clause-closed : goal.returns-then-lost-tries-clause-closed
returns-then-lost-tries-clause-closed c =
    let g = c.args.table.now in
    let old = c.args.hand.now in
    let now = the_view c.loop-hand.hand-inside in
    let i = c.loop-hand.invariant.settling in
    let epoch = c.give_ripe-epoch.result.0 in
    let none = c.give_ripe-epoch.result.1 in
    let limbo = c.give_ripe-epoch.new.limbo in
    let u = c.give_ripe-epoch.new.token in
    let b = c.give_ripe-epoch.ensures.given in
    let of = c.give_ripe-epoch.ensures.table in
    let j = settling_goes g old now c.loop-hand.lost i epoch none limbo u b of 1 (b.lost c.if-none_ripe.false) in
    j.closed

pub returns-then-lost-tries-clause-settled : goal.returns-then-lost-tries-clause-settled
returns-then-lost-tries-clause-settled c =
    let g = c.args.table.now in
    let old = c.args.hand.now in
    let now = the_view c.loop-hand.hand-inside in
    let i = c.loop-hand.invariant.settling in
    let epoch = c.give_ripe-epoch.result.0 in
    let none = c.give_ripe-epoch.result.1 in
    let limbo = c.give_ripe-epoch.new.limbo in
    let u = c.give_ripe-epoch.new.token in
    let b = c.give_ripe-epoch.ensures.given in
    let of = c.give_ripe-epoch.ensures.table in
    let new = gave_ripe g old now c.loop-hand.lost i epoch none limbo u b of in
    let j = settling_goes g old now c.loop-hand.lost i epoch none limbo u b of 1 (b.lost c.if-none_ripe.false) in
    let same = ap (λ (k : HandValue). k.uses) c.hand.view_is in
    let most : c.hand.inside.uses ≤ 2 ^ 32 = c.hand.invariant in
    let left : c.args.hand.now.uses < 2 ^ 32 = let no = c.if-hand-eq-USES.false in omega (arith, no, most, same) in (
      left,
      (
        j.settled,
        subst (λ (n : ℕ). Fell n u.view.number j.settled.moved.front u.view.front) c.if-lost-tries.true
            j.fell,
      ),
    )

pub loop-hand-smaller : goal.loop-hand-smaller
loop-hand-smaller c =
    let low = c.loop-hand.invariant.low in
    omega (arith, low)

pub loop-hand-preserved : goal.loop-hand-preserved
loop-hand-preserved c =
    let g = c.args.table.now in
    let old = c.args.hand.now in
    let now = the_view c.loop-hand.hand-inside in
    let i = c.loop-hand.invariant.settling in
    let epoch = c.give_ripe-epoch.result.0 in
    let none = c.give_ripe-epoch.result.1 in
    let limbo = c.give_ripe-epoch.new.limbo in
    let u = c.give_ripe-epoch.new.token in
    let b = c.give_ripe-epoch.ensures.given in
    let of = c.give_ripe-epoch.ensures.table in
    let j = settling_goes g old now c.loop-hand.lost i epoch none limbo u b of 1 (b.lost c.if-none_ripe.false) in
    let low = c.loop-hand.invariant.low in
    let other = c.if-lost-tries.false in
    record { settling = j; low = omega (arith, low, other) }
