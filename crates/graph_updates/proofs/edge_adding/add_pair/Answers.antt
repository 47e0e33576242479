use Rattle.std.proofs.Common.{ℕ, None, true, subst, arith}
use Rattle.graph_updates.specs.Parts.{Fell}
use Rattle.graph_updates.proofs.EdgeAddingAddsUp.{edge_full_since, on_limit, since_added, since_overtaken_by}
use Rattle.graph_updates.proofs.EdgeRaisesTell.{kept_along, raised_along}
use Rattle.graph_updates.proofs.LocatingTells.{between_earlier}
use Rattle.graph_updates.specs.Pairs.{HasPair}
use Rattle.graph_updates.proofs.TriesAddUp.{lack_earlier, trying_fell, trying_grows, trying_none, trying_on}
use Rattle.graph_updates.proofs.edge_adding.add_pair.Goals as goal

pub loop-outcome-init : goal.loop-outcome-init
loop-outcome-init c = record {
  trying = trying_none true c.args.table.now c.args.tries c.args.hand.now c.requires.hand c.requires.pass
      c.requires.nodes c.requires.some;
  last = tt;
  raised = record { each = λ again o. o };
}

pub try_add_pair-requires-clause-hand : goal.try_add_pair-requires-clause-hand
try_add_pair-requires-clause-hand c =
    let g = c.args.table.now in
    let h = c.args.hand.now in
    let k = c.loop-outcome.hand in
    let i = c.loop-outcome.invariant in
    i.trying.hand

pub try_add_pair-requires-clause-pass : goal.try_add_pair-requires-clause-pass
try_add_pair-requires-clause-pass c =
    let g = c.args.table.now in
    let h = c.args.hand.now in
    let k = c.loop-outcome.hand in
    let i = c.loop-outcome.invariant in
    i.trying.pass

pub try_add_pair-requires-clause-nodes : goal.try_add_pair-requires-clause-nodes
try_add_pair-requires-clause-nodes c =
    let g = c.args.table.now in
    let h = c.args.hand.now in
    let k = c.loop-outcome.hand in
    let i = c.loop-outcome.invariant in
    i.trying.on.nodes

pub try_add_pair-requires-clause-limit : goal.try_add_pair-requires-clause-limit
try_add_pair-requires-clause-limit c =
    let g = c.args.table.now in
    let h = c.args.hand.now in
    let k = c.loop-outcome.hand in
    let i = c.loop-outcome.invariant in
    on_limit h k k i.trying.on c.requires.limit

pub try_add_pair-requires-clause-last : goal.try_add_pair-requires-clause-last
try_add_pair-requires-clause-last c =
    let g = c.args.table.now in
    let h = c.args.hand.now in
    let k = c.loop-outcome.hand in
    let i = c.loop-outcome.invariant in
    i.last

pub try_add_pair-requires-clause-raised : goal.try_add_pair-requires-clause-raised
try_add_pair-requires-clause-raised c =
    let g = c.args.table.now in
    let h = c.args.hand.now in
    let k = c.loop-outcome.hand in
    let i = c.loop-outcome.invariant in
    raised_along None c.loop-outcome.raised h.token.view k.token.view i.raised c.requires.raised

pub try_add_pair-requires-clause-left : goal.try_add_pair-requires-clause-left
try_add_pair-requires-clause-left c =
    let g = c.args.table.now in
    let h = c.args.hand.now in
    let k = c.loop-outcome.hand in
    let i = c.loop-outcome.invariant in
    i.trying.left

pub returns-in-Done-clause-raised : goal.returns-in-Done-clause-raised
returns-in-Done-clause-raised c =
    let g = c.args.table.now in
    let h = c.args.hand.now in
    let k = c.loop-outcome.hand in
    let i = c.loop-outcome.invariant in
    let l = c.try_add_pair.new.hand in (
      c.try_add_pair.new.raised,
      kept_along None c.loop-outcome.raised c.try_add_pair.new.raised h.token.view k.token.view l.token.view i.raised
          c.try_add_pair.ensures.raised,
    )

pub returns-in-Overtaken-clause-raised : goal.returns-in-Overtaken-clause-raised
returns-in-Overtaken-clause-raised c =
    let g = c.args.table.now in
    let h = c.args.hand.now in
    let k = c.loop-outcome.hand in
    let i = c.loop-outcome.invariant in
    let l = c.try_add_pair.new.hand in (
      c.try_add_pair.new.raised,
      kept_along None c.loop-outcome.raised c.try_add_pair.new.raised h.token.view k.token.view l.token.view i.raised
          c.try_add_pair.ensures.raised,
    )

pub returns-in-Present-clause-raised : goal.returns-in-Present-clause-raised
returns-in-Present-clause-raised c =
    let g = c.args.table.now in
    let h = c.args.hand.now in
    let k = c.loop-outcome.hand in
    let i = c.loop-outcome.invariant in
    let l = c.try_add_pair.new.hand in (
      c.try_add_pair.new.raised,
      kept_along None c.loop-outcome.raised c.try_add_pair.new.raised h.token.view k.token.view l.token.view i.raised
          c.try_add_pair.ensures.raised,
    )

pub returns-in-Lacks-clause-raised : goal.returns-in-Lacks-clause-raised
returns-in-Lacks-clause-raised c =
    let g = c.args.table.now in
    let h = c.args.hand.now in
    let k = c.loop-outcome.hand in
    let i = c.loop-outcome.invariant in
    let l = c.try_add_pair.new.hand in (
      c.try_add_pair.new.raised,
      kept_along None c.loop-outcome.raised c.try_add_pair.new.raised h.token.view k.token.view l.token.view i.raised
          c.try_add_pair.ensures.raised,
    )

pub returns-in-FullAtGap-clause-raised : goal.returns-in-FullAtGap-clause-raised
returns-in-FullAtGap-clause-raised c =
    let g = c.args.table.now in
    let h = c.args.hand.now in
    let k = c.loop-outcome.hand in
    let i = c.loop-outcome.invariant in
    let l = c.try_add_pair.new.hand in (
      c.try_add_pair.new.raised,
      kept_along None c.loop-outcome.raised c.try_add_pair.new.raised h.token.view k.token.view l.token.view i.raised
          c.try_add_pair.ensures.raised,
    )

pub returns-in-FullAtEdge-clause-raised : goal.returns-in-FullAtEdge-clause-raised
returns-in-FullAtEdge-clause-raised c =
    let g = c.args.table.now in
    let h = c.args.hand.now in
    let k = c.loop-outcome.hand in
    let i = c.loop-outcome.invariant in
    let l = c.try_add_pair.new.hand in (
      c.try_add_pair.new.raised,
      kept_along None c.loop-outcome.raised c.try_add_pair.new.raised h.token.view k.token.view l.token.view i.raised
          c.try_add_pair.ensures.raised,
    )

pub returns-in-Again-clause-raised : goal.returns-in-Again-clause-raised
returns-in-Again-clause-raised c =
    let g = c.args.table.now in
    let h = c.args.hand.now in
    let k = c.loop-outcome.hand in
    let i = c.loop-outcome.invariant in
    let l = c.try_add_pair.new.hand in (
      c.try_add_pair.new.raised,
      kept_along None c.loop-outcome.raised c.try_add_pair.new.raised h.token.view k.token.view l.token.view i.raised
          c.try_add_pair.ensures.raised,
    )

pub returns-in-Done-clause-added : goal.returns-in-Done-clause-added
returns-in-Done-clause-added c =
    let g = c.args.table.now in
    let h = c.args.hand.now in
    let k = c.loop-outcome.hand in
    let i = c.loop-outcome.invariant in
    let l = c.try_add_pair.new.hand in
    since_added h k l i.trying.on c.args.pair.0 c.args.pair.1 c.args.weight c.in-Done.outcome
    c.in-Done.moment.value c.in-Done.ensures.tried

pub returns-in-Overtaken-clause-added : goal.returns-in-Overtaken-clause-added
returns-in-Overtaken-clause-added c =
    let g = c.args.table.now in
    let h = c.args.hand.now in
    let k = c.loop-outcome.hand in
    let i = c.loop-outcome.invariant in
    let l = c.try_add_pair.new.hand in
    since_overtaken_by h k l i.trying.on c.args.pair.0 c.args.pair.1 c.args.weight
    c.in-Overtaken.ends c.in-Overtaken.moment.value.view.front c.in-Overtaken.ensures.tried

pub returns-in-Present-clause-added : goal.returns-in-Present-clause-added
returns-in-Present-clause-added c =
    let g = c.args.table.now in
    let h = c.args.hand.now in
    let k = c.loop-outcome.hand in
    let i = c.loop-outcome.invariant in
    let l = c.try_add_pair.new.hand in
    let e = c.in-Present.ensures.tried in (
      trying_on true g c.args.tries c.loop-outcome.lost h k l i.trying e.0,
      between_earlier (HasPair c.args.pair.0 c.args.pair.1 c.args.weight) h.token.view.front k.token.view.front
          l.token.view.front c.in-Present.seen.moment.value.view.front
          (trying_grows true g c.args.tries c.loop-outcome.lost h k l i.trying) e.1,
    )

pub returns-in-Lacks-clause-added : goal.returns-in-Lacks-clause-added
returns-in-Lacks-clause-added c =
    let g = c.args.table.now in
    let h = c.args.hand.now in
    let k = c.loop-outcome.hand in
    let i = c.loop-outcome.invariant in
    let l = c.try_add_pair.new.hand in
    let e = c.in-Lacks.ensures.tried in (
      trying_on true g c.args.tries c.loop-outcome.lost h k l i.trying e.0,
      (
        lack_earlier c.args.pair.0 c.args.pair.1 h.token.view k.token.view l.token.view
            (trying_grows true g c.args.tries c.loop-outcome.lost h k l i.trying) c.in-Lacks.lack e.1.0,
        e.1.1,
      ),
    )

pub returns-in-FullAtGap-clause-added : goal.returns-in-FullAtGap-clause-added
returns-in-FullAtGap-clause-added c =
    let g = c.args.table.now in
    let h = c.args.hand.now in
    let k = c.loop-outcome.hand in
    let i = c.loop-outcome.invariant in
    let l = c.try_add_pair.new.hand in
    edge_full_since h k l i.trying.on c.args.pair.0 c.args.pair.1 c.args.weight c.in-FullAtGap.gap.moment
    c.in-FullAtGap.ensures.tried

pub returns-in-FullAtEdge-clause-added : goal.returns-in-FullAtEdge-clause-added
returns-in-FullAtEdge-clause-added c =
    let g = c.args.table.now in
    let h = c.args.hand.now in
    let k = c.loop-outcome.hand in
    let i = c.loop-outcome.invariant in
    let l = c.try_add_pair.new.hand in
    edge_full_since h k l i.trying.on c.args.pair.0 c.args.pair.1 c.args.weight
    c.in-FullAtEdge.seen.moment.value.view.front c.in-FullAtEdge.ensures.tried

pub returns-in-Again-clause-added : goal.returns-in-Again-clause-added
returns-in-Again-clause-added c =
    let g = c.args.table.now in
    let h = c.args.hand.now in
    let k = c.loop-outcome.hand in
    let i = c.loop-outcome.invariant in
    let l = c.try_add_pair.new.hand in
    let e = c.in-Again.ensures.tried in (
      trying_on true g c.args.tries c.loop-outcome.lost h k l i.trying e.0,
      subst (λ (n : ℕ). Fell n l.token.view.number h.token.view.front l.token.view.front) e.1
          (trying_fell true g c.args.tries c.loop-outcome.lost h k l i.trying c.try_add_pair.new.lost
          c.in-Again.ensures.lost e.0 c.in-Again.ensures.fell),
    )

pub loop-outcome-smaller : goal.loop-outcome-smaller
loop-outcome-smaller c =
    let g = c.args.table.now in
    let h = c.args.hand.now in
    let k = c.loop-outcome.hand in
    let i = c.loop-outcome.invariant in
    let l = c.try_add_pair.new.hand in
    let more = c.try_add_pair.ensures.more c.in-Lost.is in
    let left = c.in-Lost.ensures.tried.1 in
    omega (arith, more, left)

pub loop-outcome-preserved : goal.loop-outcome-preserved
loop-outcome-preserved c =
    let g = c.args.table.now in
    let h = c.args.hand.now in
    let k = c.loop-outcome.hand in
    let i = c.loop-outcome.invariant in
    let l = c.try_add_pair.new.hand in
    let e = c.in-Lost.ensures.tried in
    record {
      trying = record {
        hand = c.in-Lost.ensures.hand;
        pass = c.in-Lost.ensures.pass;
        on = trying_on true g c.args.tries c.loop-outcome.lost h k l i.trying e.0;
        left = e.1;
        fell = trying_fell true g c.args.tries c.loop-outcome.lost h k l i.trying c.try_add_pair.new.lost
            c.in-Lost.ensures.lost e.0 c.in-Lost.ensures.fell;
      };
      last = c.in-Lost.ensures.last;
      raised = kept_along None c.loop-outcome.raised c.try_add_pair.new.raised h.token.view k.token.view l.token.view
          i.raised
          c.try_add_pair.ensures.raised;
    }
