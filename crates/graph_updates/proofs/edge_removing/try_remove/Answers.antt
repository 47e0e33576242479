use Rattle.std.proofs.Common.{◌+◌, ◌-◌, true, subst, sym}
use Rattle.graph_updates.specs.EdgeRemoving.{MatchEdgeRemoveTried}
use Rattle.graph_updates.specs.declared.edge_removing.EdgeRemoveTried.{EdgeRemoveTried}
use Rattle.graph_updates.proofs.AddingAddsUp.{helped_on}
use Rattle.graph_updates.proofs.EdgeRemovingTells.{bare_on, helped_raised, kept_helped, kept_since, lost_more}
use Rattle.graph_updates.proofs.EdgeRemovingTells.{lost_same}
use Rattle.graph_updates.proofs.EdgeRemovingTells.{marked_tried}
use Rattle.graph_updates.proofs.LookingTells.{still_less}
use Rattle.graph_updates.proofs.PairsTell.{key_lacks, to_linked}
use Rattle.graph_updates.proofs.SeekingSteps.{helps_pass}
use Rattle.graph_updates.proofs.edge_removing.try_remove.Goals as goal

pub returns-in-Gone-clause-raised : goal.returns-in-Gone-clause-raised
returns-in-Gone-clause-raised c = kept_helped c.args.hand.now c.locate_ends.new.hand c.locate_ends.ensures.helped

pub returns-in-Gone-clause-tried : goal.returns-in-Gone-clause-tried
returns-in-Gone-clause-tried c =
    let old = c.args.hand.now in
    let mid = c.locate_ends.new.hand in (
      helped_on true old mid c.requires.nodes c.locate_ends.ensures.helped,
      key_lacks c.args.from c.args.to old.token.view mid.token.view c.in-Gone.gap c.in-Gone.ensures.located.1,
    )

pub returns-in-Again-clause-pass : goal.returns-in-Again-clause-pass
returns-in-Again-clause-pass c = helps_pass c.args.hand.now.token.view c.locate_ends.new.hand.token.view
    c.requires.hand.of.layout c.locate_ends.ensures.helped.helped.only c.requires.pass

pub returns-in-Again-clause-raised : goal.returns-in-Again-clause-raised
returns-in-Again-clause-raised c = kept_helped c.args.hand.now c.locate_ends.new.hand c.locate_ends.ensures.helped

pub returns-in-Again-clause-tried : goal.returns-in-Again-clause-tried
returns-in-Again-clause-tried c = (
  helped_on true c.args.hand.now c.locate_ends.new.hand c.requires.nodes c.locate_ends.ensures.helped,
  c.in-Again.ensures.located,
)

pub remove_at-tried-requires-clause-raised : goal.remove_at-tried-requires-clause-raised
remove_at-tried-requires-clause-raised c = helped_raised c.args.hand.now c.locate_ends.new.hand
    c.locate_ends.ensures.helped c.requires.raised

pub remove_at-tried-requires-clause-key : goal.remove_at-tried-requires-clause-key
remove_at-tried-requires-clause-key c = to_linked c.args.from c.args.to c.args.hand.now.token.view
    c.locate_ends.new.hand.token.view c.in-Both.ends c.in-Both.ensures.located.1

pub returns-then-lost-tries-clause-fell : goal.returns-then-lost-tries-clause-fell
returns-then-lost-tries-clause-fell c =
    let old = c.args.hand.now in
    let mid = c.locate_ends.new.hand in
    let new = c.remove_at-tried.new.hand in
    let k = c.in-Lost.ensures.removed old c.args.from c.requires.nodes c.locate_ends.ensures.helped
    c.in-Both.ensures.located.1 in
    lost_more c.args.lost.now c.locate_ends.new.lost old mid new c.locate_ends.ensures.lost c.locate_ends.ensures.helped
    k.0 c.remove_at-tried.ensures.grows c.locate_ends.ensures.fell k.1

pub returns-then-lost-tries-clause-raised : goal.returns-then-lost-tries-clause-raised
returns-then-lost-tries-clause-raised c = kept_since c.args.from c.args.to c.in-Both.ends c.args.hand.now
    c.locate_ends.new.hand c.remove_at-tried.new.hand c.locate_ends.ensures.helped c.in-Both.ensures.located.1
    c.remove_at-tried.ensures.raised

pub returns-else-lost-tries-clause-fell : goal.returns-else-lost-tries-clause-fell
returns-else-lost-tries-clause-fell c =
    let old = c.args.hand.now in
    let mid = c.locate_ends.new.hand in
    let new = c.remove_at-tried.new.hand in
    let k = c.in-Lost.ensures.removed old c.args.from c.requires.nodes c.locate_ends.ensures.helped
    c.in-Both.ensures.located.1 in
    lost_more c.args.lost.now c.locate_ends.new.lost old mid new c.locate_ends.ensures.lost c.locate_ends.ensures.helped
    k.0 c.remove_at-tried.ensures.grows c.locate_ends.ensures.fell k.1

pub returns-else-lost-tries-clause-raised : goal.returns-else-lost-tries-clause-raised
returns-else-lost-tries-clause-raised c = kept_since c.args.from c.args.to c.in-Both.ends c.args.hand.now
    c.locate_ends.new.hand c.remove_at-tried.new.hand c.locate_ends.ensures.helped c.in-Both.ensures.located.1
    c.remove_at-tried.ensures.raised

pub returns-then-lost-tries-clause-tried : goal.returns-then-lost-tries-clause-tried
returns-then-lost-tries-clause-tried c = (
  bare_on c.args.hand.now c.remove_at-tried.new.hand
      (c.in-Lost.ensures.removed c.args.hand.now c.args.from c.requires.nodes c.locate_ends.ensures.helped
      c.in-Both.ensures.located.1).0,
  c.if-lost-tries.true,
)

pub returns-else-lost-tries-clause-tried : goal.returns-else-lost-tries-clause-tried
returns-else-lost-tries-clause-tried c =
    let old = c.args.hand.now in
    let new = c.remove_at-tried.new.hand in
    subst
    (λ (r : EdgeRemoveTried). MatchEdgeRemoveTried r c.args.from c.args.to (c.locate_ends.new.lost + 1) c.args.tries old
    new)
    (sym c.in-Lost.is) (
      (c.in-Lost.ensures.removed old c.args.from c.requires.nodes c.locate_ends.ensures.helped
          c.in-Both.ensures.located.1).0,
      still_less c.locate_ends.new.lost c.args.tries c.in-Both.ensures.located.0 c.if-lost-tries.false,
    )

pub returns-in_default : goal.returns-in_default
returns-in_default c =
    let old = c.args.hand.now in
    let mid = c.locate_ends.new.hand in
    let new = c.remove_at-tried.new.hand in
    record {
      hand = c.remove_at-tried.ensures.hand;
      pass = c.remove_at-tried.ensures.pass;
      lost = c.locate_ends.ensures.lost;
      fell = lost_same (c.locate_ends.new.lost - c.args.lost.now) old mid new c.locate_ends.ensures.helped
          c.remove_at-tried.ensures.grows c.locate_ends.ensures.fell;
      raised = kept_since c.args.from c.args.to c.in-Both.ends old mid new c.locate_ends.ensures.helped
          c.in-Both.ensures.located.1 c.remove_at-tried.ensures.raised;
      more = λ is. absurd (c.in_default.not-Lost is);
      tried = marked_tried c.remove_at-tried.result c.args.from c.args.to c.locate_ends.new.lost c.args.tries
          mid.token.view old new c.in_default.not-Lost
          (c.remove_at-tried.ensures.removed old c.args.from c.requires.nodes c.locate_ends.ensures.helped
          c.in-Both.ensures.located.1);
    }
