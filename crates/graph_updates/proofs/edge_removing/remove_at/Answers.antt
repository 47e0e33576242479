use Rattle.std.proofs.Common.{true}
use Rattle.core_journal.proofs.Lists.{prefix_trans}
use Rattle.graph_updates.specs.Pairs.{LacksPair}
use Rattle.graph_updates.proofs.AddingAddsUp.{helped_on}
use Rattle.graph_updates.proofs.CallsGo.{between_wide}
use Rattle.graph_updates.proofs.EdgeRemovingTells.{helped_bare, helped_raised, since_helped, since_none}
use Rattle.graph_updates.proofs.EndsTell.{met_helped}
use Rattle.graph_updates.proofs.HandsHelp.{has_helped_chain}
use Rattle.graph_updates.proofs.LocatingTells.{helped_grows}
use Rattle.graph_updates.proofs.PairsTell.{end_over, from_linked, lack_told, located_grows, pair_missing, pair_stale}
use Rattle.graph_updates.proofs.SeekingSteps.{helps_pass}
use Rattle.graph_updates.proofs.edge_removing.remove_at.Goals as goal

pub mark_pair-requires-clause-raised : goal.mark_pair-requires-clause-raised
mark_pair-requires-clause-raised c = helped_raised c.args.hand.now c.find_pair.new.hand c.find_pair.ensures.helped
    c.requires.raised

pub mark_pair-requires-clause-from : goal.mark_pair-requires-clause-from
mark_pair-requires-clause-from c = met_helped c.args.hand.now c.find_pair.new.hand c.requires.hand.of.layout
    c.find_pair.ensures.helped c.args.ends.from c.requires.from

pub mark_pair-requires-clause-to : goal.mark_pair-requires-clause-to
mark_pair-requires-clause-to c = met_helped c.args.hand.now c.find_pair.new.hand c.requires.hand.of.layout
    c.find_pair.ensures.helped c.args.ends.to c.requires.to

pub lack_with-requires-clause-from : goal.lack_with-requires-clause-from
lack_with-requires-clause-from c = met_helped c.args.hand.now c.find_pair.new.hand c.requires.hand.of.layout
    c.find_pair.ensures.helped c.args.ends.from c.requires.from

pub lack_with-requires-clause-to : goal.lack_with-requires-clause-to
lack_with-requires-clause-to c = met_helped c.args.hand.now c.find_pair.new.hand c.requires.hand.of.layout
    c.find_pair.ensures.helped c.args.ends.to c.requires.to

pub lack_with-requires-in-Gone-clause-from : goal.lack_with-requires-in-Gone-clause-from
lack_with-requires-in-Gone-clause-from c = met_helped c.args.hand.now c.find_pair.new.hand c.requires.hand.of.layout
    c.find_pair.ensures.helped c.args.ends.from c.requires.from

pub lack_with-requires-in-Gone-clause-to : goal.lack_with-requires-in-Gone-clause-to
lack_with-requires-in-Gone-clause-to c = met_helped c.args.hand.now c.find_pair.new.hand c.requires.hand.of.layout
    c.find_pair.ensures.helped c.args.ends.to c.requires.to

pub returns-in-Edge-clause-grows : goal.returns-in-Edge-clause-grows
returns-in-Edge-clause-grows c = prefix_trans c.args.hand.now.token.view.front c.find_pair.new.hand.token.view.front
    c.mark_pair.new.hand.token.view.front (helped_grows c.args.hand.now c.find_pair.new.hand c.find_pair.ensures.helped)
    c.mark_pair.ensures.grows

pub returns-in-Edge-clause-raised : goal.returns-in-Edge-clause-raised
returns-in-Edge-clause-raised c = since_helped c.args.ends.from c.in-Edge.seen.moment.value.view.front c.args.hand.now
    c.find_pair.new.hand c.mark_pair.new.hand c.find_pair.ensures.helped c.in-Edge.ensures.found.0.there.since
    c.mark_pair.ensures.raised

pub returns-in-Edge-clause-removed : goal.returns-in-Edge-clause-removed
returns-in-Edge-clause-removed c = λ old a nodes helped e.
    let h = c.args.hand.now in
    c.mark_pair.ensures.marked old a c.args.to record {
      nodes = nodes;
      helped = has_helped_chain old h c.find_pair.new.hand helped c.find_pair.ensures.helped;
      mid = h.token.view;
      ends_are = e;
      here = c.in-Edge.ensures.found.0;
      target = c.in-Edge.ensures.found.1;
    }

pub returns-in-Stale-clause-pass : goal.returns-in-Stale-clause-pass
returns-in-Stale-clause-pass c =
    let h = c.args.hand.now in
    let n = c.lack_with.new.hand in
    let all = has_helped_chain h c.find_pair.new.hand n c.find_pair.ensures.helped c.lack_with.ensures.helped in
    helps_pass h.token.view n.token.view c.requires.hand.of.layout all.helped.only c.requires.pass

pub returns-in-Stale-clause-grows : goal.returns-in-Stale-clause-grows
returns-in-Stale-clause-grows c =
    let h = c.args.hand.now in
    let n = c.lack_with.new.hand in
    helped_grows h n (has_helped_chain h c.find_pair.new.hand n c.find_pair.ensures.helped c.lack_with.ensures.helped)

pub returns-in-Stale-clause-raised : goal.returns-in-Stale-clause-raised
returns-in-Stale-clause-raised c =
    let h = c.args.hand.now in
    let n = c.lack_with.new.hand in
    since_none c.args.ends.from h n
    (has_helped_chain h c.find_pair.new.hand n c.find_pair.ensures.helped c.lack_with.ensures.helped)

pub returns-in-Gone-clause-pass : goal.returns-in-Gone-clause-pass
returns-in-Gone-clause-pass c =
    let h = c.args.hand.now in
    let n = c.lack_with-in-Gone.new.hand in
    let all = has_helped_chain h c.find_pair.new.hand n c.find_pair.ensures.helped c.lack_with-in-Gone.ensures.helped in
    helps_pass h.token.view n.token.view c.requires.hand.of.layout all.helped.only c.requires.pass

pub returns-in-Gone-clause-grows : goal.returns-in-Gone-clause-grows
returns-in-Gone-clause-grows c =
    let h = c.args.hand.now in
    let n = c.lack_with-in-Gone.new.hand in
    helped_grows h n (has_helped_chain h c.find_pair.new.hand n c.find_pair.ensures.helped
    c.lack_with-in-Gone.ensures.helped)

pub returns-in-Gone-clause-raised : goal.returns-in-Gone-clause-raised
returns-in-Gone-clause-raised c =
    let h = c.args.hand.now in
    let n = c.lack_with-in-Gone.new.hand in
    since_none c.args.ends.from h n
    (has_helped_chain h c.find_pair.new.hand n c.find_pair.ensures.helped c.lack_with-in-Gone.ensures.helped)

pub returns-in-Stale-clause-removed : goal.returns-in-Stale-clause-removed
returns-in-Stale-clause-removed c = λ old a nodes helped e.
    let v = old.token.view in
    let m = c.args.hand.now.token.view in
    let w = c.find_pair.new.hand.token.view in
    let n = c.lack_with.new.hand in
    let x = n.token.view in
    let ends = c.args.ends in
    let f = c.in-Stale.ensures.found in
    let s = c.in-Stale.seen in
    let later = helped_grows c.find_pair.new.hand n c.lack_with.ensures.helped in
    let all = has_helped_chain c.args.hand.now c.find_pair.new.hand n c.find_pair.ensures.helped
    c.lack_with.ensures.helped in (
      helped_on true old n nodes (has_helped_chain old c.args.hand.now n helped all),
      lack_told a c.args.to v m x ends e (helped_grows c.args.hand.now n all) w c.lack_with.result _
          c.lack_with.ensures.lack
          (λ from to. between_wide (LacksPair a c.args.to) (LacksPair a c.args.to) v.front m.front w.front x.front
          s.moment.value.view.front (λ j h. h) (located_grows a c.args.to v m ends e) later
          (pair_stale a c.args.to m w ends (from_linked a c.args.to v m ends e) c.requires.key
          c.find_pair.ensures.hand.of.layout c.find_pair.ensures.hand.of.sound.kept from to s f.0 f.1.0)),
    )

pub returns-in-Gone-clause-removed : goal.returns-in-Gone-clause-removed
returns-in-Gone-clause-removed c = λ old a nodes helped e.
    let v = old.token.view in
    let m = c.args.hand.now.token.view in
    let w = c.find_pair.new.hand.token.view in
    let n = c.lack_with-in-Gone.new.hand in
    let x = n.token.view in
    let ends = c.args.ends in
    let q = c.in-Gone.gap in
    let later = helped_grows c.find_pair.new.hand n c.lack_with-in-Gone.ensures.helped in
    let all = has_helped_chain c.args.hand.now c.find_pair.new.hand n c.find_pair.ensures.helped
    c.lack_with-in-Gone.ensures.helped in (
      helped_on true old n nodes (has_helped_chain old c.args.hand.now n helped all),
      lack_told a c.args.to v m x ends e (helped_grows c.args.hand.now n all) w c.lack_with-in-Gone.result _
          c.lack_with-in-Gone.ensures.lack
          (λ from to. between_wide (LacksPair a c.args.to) (LacksPair a c.args.to) v.front m.front w.front x.front
          q.moment (λ j h. h) (located_grows a c.args.to v m ends e) later
          (pair_missing a c.args.to m w ends (from_linked a c.args.to v m ends e) c.requires.key
          c.find_pair.ensures.hand.of.layout c.find_pair.ensures.hand.of.sound.kept from to q
          c.in-Gone.ensures.found)),
    )

pub returns-in-Over-clause-pass : goal.returns-in-Over-clause-pass
returns-in-Over-clause-pass c = helps_pass c.args.hand.now.token.view c.find_pair.new.hand.token.view
    c.requires.hand.of.layout c.find_pair.ensures.helped.helped.only c.requires.pass

pub returns-in-Over-clause-grows : goal.returns-in-Over-clause-grows
returns-in-Over-clause-grows c = helped_grows c.args.hand.now c.find_pair.new.hand c.find_pair.ensures.helped

pub returns-in-Over-clause-raised : goal.returns-in-Over-clause-raised
returns-in-Over-clause-raised c = since_none c.args.ends.from c.args.hand.now c.find_pair.new.hand
    c.find_pair.ensures.helped

pub returns-in-Lost-clause-pass : goal.returns-in-Lost-clause-pass
returns-in-Lost-clause-pass c = helps_pass c.args.hand.now.token.view c.find_pair.new.hand.token.view
    c.requires.hand.of.layout c.find_pair.ensures.helped.helped.only c.requires.pass

pub returns-in-Lost-clause-grows : goal.returns-in-Lost-clause-grows
returns-in-Lost-clause-grows c = helped_grows c.args.hand.now c.find_pair.new.hand c.find_pair.ensures.helped

pub returns-in-Lost-clause-raised : goal.returns-in-Lost-clause-raised
returns-in-Lost-clause-raised c = since_none c.args.ends.from c.args.hand.now c.find_pair.new.hand
    c.find_pair.ensures.helped

pub returns-in-Over-clause-removed : goal.returns-in-Over-clause-removed
returns-in-Over-clause-removed c = λ old a nodes helped e.
    let h = c.args.hand.now in
    let n = c.find_pair.new.hand in (
      helped_on true old n nodes (has_helped_chain old h n helped c.find_pair.ensures.helped),
      end_over a c.args.to old.token.view h.token.view n.token.view c.args.ends e
          (helped_grows h n c.find_pair.ensures.helped) c.in-Over.life c.in-Over.ensures.found.0
          c.in-Over.ensures.found.1,
    )

pub returns-in-Lost-clause-removed : goal.returns-in-Lost-clause-removed
returns-in-Lost-clause-removed c = λ old a nodes helped e.
    let n = c.find_pair.new.hand in (
      helped_bare old n nodes (has_helped_chain old c.args.hand.now n helped c.find_pair.ensures.helped),
      c.in-Lost.ensures.found,
    )
