use Rattle.std.proofs.Common.{◌+◌, ◌-◌, false, subst, sym}
use Rattle.graph_updates.specs.EdgeLooking.{MatchLookTried}
use Rattle.graph_updates.specs.declared.edge_looking.LookTried.{LookTried}
use Rattle.graph_updates.proofs.AddingAddsUp.{helped_on}
use Rattle.graph_updates.proofs.HandsHelp.{has_helped_chain}
use Rattle.graph_updates.proofs.LocatingTells.{fell_more, fell_on}
use Rattle.graph_updates.proofs.LookingTells.{looked_tried, still_less}
use Rattle.graph_updates.proofs.PairsTell.{key_lacks, to_linked}
use Rattle.graph_updates.proofs.SeekingSteps.{helps_pass}
use Rattle.graph_updates.proofs.edge_looking.try_look.Goals as goal

pub returns-in-Gone-clause-tried : goal.returns-in-Gone-clause-tried
returns-in-Gone-clause-tried c =
    let old = c.args.hand.now in
    let mid = c.locate_ends.new.hand in (
      helped_on false old mid c.requires.nodes c.locate_ends.ensures.helped,
      key_lacks c.args.from c.args.to old.token.view mid.token.view c.in-Gone.gap c.in-Gone.ensures.located.1,
    )

pub returns-in-Again-clause-pass : goal.returns-in-Again-clause-pass
returns-in-Again-clause-pass c = helps_pass c.args.hand.now.token.view c.locate_ends.new.hand.token.view
    c.requires.hand.of.layout c.locate_ends.ensures.helped.helped.only c.requires.pass

pub returns-in-Again-clause-tried : goal.returns-in-Again-clause-tried
returns-in-Again-clause-tried c = (
  helped_on false c.args.hand.now c.locate_ends.new.hand c.requires.nodes c.locate_ends.ensures.helped,
  c.in-Again.ensures.located,
)

pub look_at-tried-requires-clause-key : goal.look_at-tried-requires-clause-key
look_at-tried-requires-clause-key c = to_linked c.args.from c.args.to c.args.hand.now.token.view
    c.locate_ends.new.hand.token.view c.in-Both.ends c.in-Both.ensures.located.1

pub returns-then-lost-tries-clause-pass : goal.returns-then-lost-tries-clause-pass
returns-then-lost-tries-clause-pass c =
    let old = c.args.hand.now in
    let mid = c.locate_ends.new.hand in
    let new = c.look_at-tried.new.hand in
    let all = has_helped_chain old mid new c.locate_ends.ensures.helped c.look_at-tried.ensures.helped in
    helps_pass old.token.view new.token.view c.requires.hand.of.layout all.helped.only c.requires.pass

pub returns-then-lost-tries-clause-fell : goal.returns-then-lost-tries-clause-fell
returns-then-lost-tries-clause-fell c = fell_more c.args.lost.now c.locate_ends.new.lost c.args.hand.now
    c.locate_ends.new.hand c.look_at-tried.new.hand c.locate_ends.ensures.lost c.locate_ends.ensures.helped
    c.look_at-tried.ensures.helped c.locate_ends.ensures.fell
    (c.in-Lost.ensures.looked c.args.hand.now.token.view c.args.from c.in-Both.ensures.located.1)

pub returns-then-lost-tries-clause-tried : goal.returns-then-lost-tries-clause-tried
returns-then-lost-tries-clause-tried c =
    let old = c.args.hand.now in
    let mid = c.locate_ends.new.hand in
    let new = c.look_at-tried.new.hand in
    let all = has_helped_chain old mid new c.locate_ends.ensures.helped c.look_at-tried.ensures.helped in
    (helped_on false old new c.requires.nodes all, c.if-lost-tries.true)

pub returns-else-lost-tries-clause-pass : goal.returns-else-lost-tries-clause-pass
returns-else-lost-tries-clause-pass c =
    let old = c.args.hand.now in
    let mid = c.locate_ends.new.hand in
    let new = c.look_at-tried.new.hand in
    let all = has_helped_chain old mid new c.locate_ends.ensures.helped c.look_at-tried.ensures.helped in
    helps_pass old.token.view new.token.view c.requires.hand.of.layout all.helped.only c.requires.pass

pub returns-else-lost-tries-clause-fell : goal.returns-else-lost-tries-clause-fell
returns-else-lost-tries-clause-fell c = fell_more c.args.lost.now c.locate_ends.new.lost c.args.hand.now
    c.locate_ends.new.hand c.look_at-tried.new.hand c.locate_ends.ensures.lost c.locate_ends.ensures.helped
    c.look_at-tried.ensures.helped c.locate_ends.ensures.fell
    (c.in-Lost.ensures.looked c.args.hand.now.token.view c.args.from c.in-Both.ensures.located.1)

pub returns-else-lost-tries-clause-tried : goal.returns-else-lost-tries-clause-tried
returns-else-lost-tries-clause-tried c =
    let old = c.args.hand.now in
    let mid = c.locate_ends.new.hand in
    let new = c.look_at-tried.new.hand in
    let all = has_helped_chain old mid new c.locate_ends.ensures.helped c.look_at-tried.ensures.helped in
    subst
    (λ (r : LookTried). MatchLookTried r c.args.from c.args.to (c.locate_ends.new.lost + 1) c.args.tries old new)
    (sym c.in-Lost.is) (
      helped_on false old new c.requires.nodes all,
      still_less c.locate_ends.new.lost c.args.tries c.in-Both.ensures.located.0 c.if-lost-tries.false,
    )

pub returns-in_default : goal.returns-in_default
returns-in_default c =
    let old = c.args.hand.now in
    let mid = c.locate_ends.new.hand in
    let new = c.look_at-tried.new.hand in
    let all = has_helped_chain old mid new c.locate_ends.ensures.helped c.look_at-tried.ensures.helped in
    record {
      hand = c.look_at-tried.ensures.hand;
      pass = helps_pass old.token.view new.token.view c.requires.hand.of.layout all.helped.only c.requires.pass;
      lost = c.locate_ends.ensures.lost;
      fell = fell_on (c.locate_ends.new.lost - c.args.lost.now) old mid new c.locate_ends.ensures.helped
          c.look_at-tried.ensures.helped c.locate_ends.ensures.fell;
      more = λ is. absurd (c.in_default.not-Lost is);
      tried = looked_tried c.args.from c.args.to c.locate_ends.new.lost c.args.tries old mid new c.requires.nodes
          c.locate_ends.ensures.helped c.look_at-tried.ensures.helped c.look_at-tried.result c.in_default.not-Lost
          (c.look_at-tried.ensures.looked old.token.view c.args.from c.in-Both.ensures.located.1);
    }
