use Rattle.std.proofs.Common.{ℕ, false, subst}
use Rattle.graph_updates.specs.Pairs.{HasPair}
use Rattle.graph_updates.specs.Parts.{Fell}
use Rattle.graph_updates.proofs.LocatingTells.{between_earlier}
use Rattle.graph_updates.proofs.TriesAddUp.{lack_earlier, trying_fell, trying_grows, trying_none, trying_on}
use Rattle.graph_updates.proofs.edge_looking.look_up.Goals as goal

pub loop-seen-init : goal.loop-seen-init
loop-seen-init c = record {
  trying = trying_none false c.args.table.now c.args.tries c.args.hand.now c.requires.hand c.requires.pass
      c.requires.nodes c.requires.some;
}

pub returns-in-Edge-clause-looked : goal.returns-in-Edge-clause-looked
returns-in-Edge-clause-looked c =
    let g = c.args.table.now in
    let h = c.args.hand.now in
    let k = c.loop-seen.hand in
    let l = c.try_look.new.hand in
    let i = c.loop-seen.invariant.trying in
    let e = c.in-Edge.ensures.tried in (
      trying_on false g c.args.tries c.loop-seen.lost h k l i e.0,
      between_earlier (HasPair c.args.from c.args.to c.in-Edge.seen.edge.weight) h.token.view.front k.token.view.front
          l.token.view.front c.in-Edge.seen.moment.value.view.front
          (trying_grows false g c.args.tries c.loop-seen.lost h k l i) e.1,
    )

pub returns-in-Lacks-clause-looked : goal.returns-in-Lacks-clause-looked
returns-in-Lacks-clause-looked c =
    let g = c.args.table.now in
    let h = c.args.hand.now in
    let k = c.loop-seen.hand in
    let l = c.try_look.new.hand in
    let i = c.loop-seen.invariant.trying in
    let e = c.in-Lacks.ensures.tried in (
      trying_on false g c.args.tries c.loop-seen.lost h k l i e.0,
      lack_earlier c.args.from c.args.to h.token.view k.token.view l.token.view
          (trying_grows false g c.args.tries c.loop-seen.lost h k l i) c.in-Lacks.lack e.1,
    )

pub returns-in-Again-clause-looked : goal.returns-in-Again-clause-looked
returns-in-Again-clause-looked c =
    let g = c.args.table.now in
    let h = c.args.hand.now in
    let k = c.loop-seen.hand in
    let l = c.try_look.new.hand in
    let i = c.loop-seen.invariant.trying in
    let e = c.in-Again.ensures.tried in (
      trying_on false g c.args.tries c.loop-seen.lost h k l i e.0,
      subst (λ (n : ℕ). Fell n l.token.view.number h.token.view.front l.token.view.front) e.1
          (trying_fell false g c.args.tries c.loop-seen.lost h k l i c.try_look.new.lost c.in-Again.ensures.lost e.0
          c.in-Again.ensures.fell),
    )

pub loop-seen-preserved : goal.loop-seen-preserved
loop-seen-preserved c =
    let g = c.args.table.now in
    let h = c.args.hand.now in
    let k = c.loop-seen.hand in
    let l = c.try_look.new.hand in
    let i = c.loop-seen.invariant.trying in
    let e = c.in-Lost.ensures.tried in
    record {
      trying = record {
        hand = c.in-Lost.ensures.hand;
        pass = c.in-Lost.ensures.pass;
        on = trying_on false g c.args.tries c.loop-seen.lost h k l i e.0;
        left = e.1;
        fell = trying_fell false g c.args.tries c.loop-seen.lost h k l i c.try_look.new.lost c.in-Lost.ensures.lost e.0
            c.in-Lost.ensures.fell;
      };
    }
