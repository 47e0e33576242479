use Rattle.std.proofs.Common.{ℕ, arith, subst, false}
use Rattle.graph_updates.specs.Parts.{Fell}
use Rattle.graph_updates.proofs.AddingAddsUp.{added_since, fell_since_first, full_since, goes_on_none, grows_since}
use Rattle.graph_updates.proofs.AddingAddsUp.{leaves_made, on_since}
use Rattle.graph_updates.proofs.LocatingTells.{fell_none, here_earlier}
use Rattle.graph_updates.proofs.adding.add.Goals as goal

pub loop-moment-init : goal.loop-moment-init
loop-moment-init c =
    let h = c.args.hand.now in
    record {
      adding = record {
        hand = c.requires.hand;
        on = goes_on_none false c.args.table.now h c.requires.hand c.requires.nodes;
        left = c.requires.some;
        fell = fell_none h.token.view.number h.token.view.front h.token.view.front;
      };
      pass = c.requires.pass;
    }

pub try_add-requires-clause-nodes : goal.try_add-requires-clause-nodes
try_add-requires-clause-nodes c = c.loop-moment.invariant.adding.on.nodes

pub try_add-requires-clause-limit : goal.try_add-requires-clause-limit
try_add-requires-clause-limit c =
    let h = c.args.hand.now in
    let k = c.loop-moment.hand in
    let on = c.loop-moment.invariant.adding.on in
    let m = leaves_made false on.taken 0 h.token.view k.token.view on.stretch in
    let low = c.requires.limit in
    let few = on.spares in
    omega (arith, m, low, few)

pub returns-in-Linked-clause-nodes : goal.returns-in-Linked-clause-nodes
returns-in-Linked-clause-nodes c =
    let h = c.args.hand.now in
    let k = c.loop-moment.hand in
    let i = c.loop-moment.invariant.adding in
    let l = c.try_add.new.hand in
    let g = c.args.table.now in
    let t = c.args.tries in
    let n = c.loop-moment.lost in
    let e = c.in-Linked.ensures.tried in
    e.nodes

pub returns-in-Linked-clause-added : goal.returns-in-Linked-clause-added
returns-in-Linked-clause-added c =
    let h = c.args.hand.now in
    let k = c.loop-moment.hand in
    let i = c.loop-moment.invariant.adding in
    let l = c.try_add.new.hand in
    let g = c.args.table.now in
    let t = c.args.tries in
    let n = c.loop-moment.lost in
    let e = c.in-Linked.ensures.tried in
    added_since c.args.key t n g h k l i c.in-Linked.moment.value e

pub returns-in-There-clause-nodes : goal.returns-in-There-clause-nodes
returns-in-There-clause-nodes c =
    let h = c.args.hand.now in
    let k = c.loop-moment.hand in
    let i = c.loop-moment.invariant.adding in
    let l = c.try_add.new.hand in
    let g = c.args.table.now in
    let t = c.args.tries in
    let n = c.loop-moment.lost in
    let e = c.in-There.ensures.tried in
    e.0.nodes

pub returns-in-There-clause-added : goal.returns-in-There-clause-added
returns-in-There-clause-added c =
    let h = c.args.hand.now in
    let k = c.loop-moment.hand in
    let i = c.loop-moment.invariant.adding in
    let l = c.try_add.new.hand in
    let g = c.args.table.now in
    let t = c.args.tries in
    let n = c.loop-moment.lost in
    let e = c.in-There.ensures.tried in
    let grows = grows_since c.args.key t n g h k l i in (
      on_since c.args.key t n g h k l i e.0,
      here_earlier c.args.key h.token.view k.token.view l.token.view c.in-There.seen grows e.1,
    )

pub returns-in-Full-clause-nodes : goal.returns-in-Full-clause-nodes
returns-in-Full-clause-nodes c =
    let h = c.args.hand.now in
    let k = c.loop-moment.hand in
    let i = c.loop-moment.invariant.adding in
    let l = c.try_add.new.hand in
    let g = c.args.table.now in
    let t = c.args.tries in
    let n = c.loop-moment.lost in
    let e = c.in-Full.ensures.tried in
    e.on.nodes

pub returns-in-Full-clause-added : goal.returns-in-Full-clause-added
returns-in-Full-clause-added c =
    let h = c.args.hand.now in
    let k = c.loop-moment.hand in
    let i = c.loop-moment.invariant.adding in
    let l = c.try_add.new.hand in
    let g = c.args.table.now in
    let t = c.args.tries in
    let n = c.loop-moment.lost in
    let e = c.in-Full.ensures.tried in
    full_since c.args.key t n g h k l i c.in-Full.gap e

pub returns-then-lost-tries-clause-nodes : goal.returns-then-lost-tries-clause-nodes
returns-then-lost-tries-clause-nodes c =
    let h = c.args.hand.now in
    let k = c.loop-moment.hand in
    let i = c.loop-moment.invariant.adding in
    let l = c.try_add.new.hand in
    let g = c.args.table.now in
    let t = c.args.tries in
    let n = c.loop-moment.lost in
    let e = c.in-Lost.ensures.tried in
    e.0.nodes

pub returns-then-lost-tries-clause-added : goal.returns-then-lost-tries-clause-added
returns-then-lost-tries-clause-added c =
    let h = c.args.hand.now in
    let k = c.loop-moment.hand in
    let i = c.loop-moment.invariant.adding in
    let l = c.try_add.new.hand in
    let g = c.args.table.now in
    let t = c.args.tries in
    let n = c.loop-moment.lost in
    let e = c.in-Lost.ensures.tried in (
      on_since c.args.key t n g h k l i e.0,
      subst (λ (m : ℕ). Fell m l.token.view.number h.token.view.front l.token.view.front) c.if-lost-tries.true
          (fell_since_first c.args.key t n g h k l i e.0 e.1),
    )

pub loop-moment-preserved : goal.loop-moment-preserved
loop-moment-preserved c =
    let h = c.args.hand.now in
    let k = c.loop-moment.hand in
    let i = c.loop-moment.invariant.adding in
    let l = c.try_add.new.hand in
    let g = c.args.table.now in
    let t = c.args.tries in
    let n = c.loop-moment.lost in
    let e = c.in-Lost.ensures.tried in
    let left = i.left in
    let other = c.if-lost-tries.false in
    record {
      adding = record {
        hand = c.in-Lost.ensures.hand;
        on = on_since c.args.key t n g h k l i e.0;
        left = omega (arith, left, other);
        fell = fell_since_first c.args.key t n g h k l i e.0 e.1;
      };
      pass = c.in-Lost.ensures.pass;
    }
