use Rattle.std.proofs.Common.{ℕ, true, subst}
use Rattle.graph_updates.specs.Parts.{Fell}
use Rattle.graph_updates.proofs.EdgeRemovingTells.{bare_chain, bare_none, bare_on, kept_chain, overtaken_since}
use Rattle.graph_updates.proofs.EdgeRemovingTells.{raised_kept, removed_since}
use Rattle.graph_updates.proofs.TriesAddUp.{lack_earlier, trying_fell, trying_grows, trying_none, trying_on}
use Rattle.graph_updates.proofs.edge_removing.remove_pair.Goals as goal

pub loop-weight-init : goal.loop-weight-init
loop-weight-init c = record {
  trying = trying_none true c.args.table.now c.args.tries c.args.hand.now c.requires.hand c.requires.pass
      c.requires.nodes c.requires.some;
  bare = bare_none c.args.table.now c.args.hand.now c.requires.hand c.requires.nodes;
  raised = record { each = λ again o. o };
}

pub try_remove-requires-clause-raised : goal.try_remove-requires-clause-raised
try_remove-requires-clause-raised c = raised_kept c.args.hand.now.token.view c.loop-weight.hand.token.view
    c.loop-weight.invariant.raised c.requires.raised

pub returns-in-Marked-clause-raised : goal.returns-in-Marked-clause-raised
returns-in-Marked-clause-raised c = kept_chain c.args.hand.now.token.view c.loop-weight.hand.token.view
    c.try_remove.new.hand.token.view c.loop-weight.invariant.raised c.in-Marked.ensures.raised

pub returns-in-Overtaken-clause-raised : goal.returns-in-Overtaken-clause-raised
returns-in-Overtaken-clause-raised c = kept_chain c.args.hand.now.token.view c.loop-weight.hand.token.view
    c.try_remove.new.hand.token.view c.loop-weight.invariant.raised c.in-Overtaken.ensures.raised

pub returns-in-Lacks-clause-raised : goal.returns-in-Lacks-clause-raised
returns-in-Lacks-clause-raised c = kept_chain c.args.hand.now.token.view c.loop-weight.hand.token.view
    c.try_remove.new.hand.token.view c.loop-weight.invariant.raised c.in-Lacks.ensures.raised

pub returns-in-Again-clause-raised : goal.returns-in-Again-clause-raised
returns-in-Again-clause-raised c = kept_chain c.args.hand.now.token.view c.loop-weight.hand.token.view
    c.try_remove.new.hand.token.view c.loop-weight.invariant.raised c.in-Again.ensures.raised

pub returns-in-Marked-clause-removed : goal.returns-in-Marked-clause-removed
returns-in-Marked-clause-removed c = removed_since c.args.from c.args.to c.args.hand.now c.loop-weight.hand
    c.try_remove.new.hand c.loop-weight.invariant.bare c.in-Marked.weight c.in-Marked.moment.value
    c.in-Marked.ensures.tried

pub returns-in-Overtaken-clause-removed : goal.returns-in-Overtaken-clause-removed
returns-in-Overtaken-clause-removed c = overtaken_since c.args.from c.args.to c.args.hand.now c.loop-weight.hand
    c.try_remove.new.hand c.loop-weight.invariant.bare c.in-Overtaken.ends c.in-Overtaken.moment.value.view.front
    c.in-Overtaken.ensures.tried

pub returns-in-Lacks-clause-removed : goal.returns-in-Lacks-clause-removed
returns-in-Lacks-clause-removed c =
    let g = c.args.table.now in
    let h = c.args.hand.now in
    let k = c.loop-weight.hand in
    let l = c.try_remove.new.hand in
    let i = c.loop-weight.invariant.trying in
    let e = c.in-Lacks.ensures.tried in (
      trying_on true g c.args.tries c.loop-weight.lost h k l i e.0,
      lack_earlier c.args.from c.args.to h.token.view k.token.view l.token.view
          (trying_grows true g c.args.tries c.loop-weight.lost h k l i) c.in-Lacks.lack e.1,
    )

pub returns-in-Again-clause-removed : goal.returns-in-Again-clause-removed
returns-in-Again-clause-removed c =
    let g = c.args.table.now in
    let h = c.args.hand.now in
    let k = c.loop-weight.hand in
    let l = c.try_remove.new.hand in
    let i = c.loop-weight.invariant.trying in
    let e = c.in-Again.ensures.tried in (
      trying_on true g c.args.tries c.loop-weight.lost h k l i e.0,
      subst (λ (n : ℕ). Fell n l.token.view.number h.token.view.front l.token.view.front) e.1
          (trying_fell true g c.args.tries c.loop-weight.lost h k l i c.try_remove.new.lost c.in-Again.ensures.lost e.0
          c.in-Again.ensures.fell),
    )

pub loop-weight-preserved : goal.loop-weight-preserved
loop-weight-preserved c =
    let g = c.args.table.now in
    let h = c.args.hand.now in
    let k = c.loop-weight.hand in
    let l = c.try_remove.new.hand in
    let i = c.loop-weight.invariant.trying in
    let e = c.in-Lost.ensures.tried in
    let on = bare_on k l e.0 in
    record {
      trying = record {
        hand = c.in-Lost.ensures.hand;
        pass = c.in-Lost.ensures.pass;
        on = trying_on true g c.args.tries c.loop-weight.lost h k l i on;
        left = e.1;
        fell = trying_fell true g c.args.tries c.loop-weight.lost h k l i c.try_remove.new.lost c.in-Lost.ensures.lost
            on
            c.in-Lost.ensures.fell;
      };
      bare = bare_chain h k l c.loop-weight.invariant.bare e.0;
      raised = kept_chain h.token.view k.token.view l.token.view c.loop-weight.invariant.raised
          c.in-Lost.ensures.raised;
    }
