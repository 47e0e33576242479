use Rattle.std.proofs.Common.{ℕ, true, refl, sym, subst}
use Rattle.graph_kinds.specs.declared.outcome.Outcome.TheVariants.{Added, Changed}
use Rattle.graph_updates.specs.EdgeRaises.{IsLastRaised}
use Rattle.graph_updates.specs.declared.edge_adding.AddTurn.TheVariants as turn
use Rattle.graph_updates.proofs.AddingAddsUp.{helped_on}
use Rattle.graph_updates.proofs.EdgeAddingAddsUp.{turn_change, turn_link, turn_over, turn_present}
use Rattle.core_rule.proofs.ViewShows.{goes_further}
use Rattle.graph_updates.proofs.EdgeAddingAddsUp.{not_stale, turn_stale, walk_limit}
use Rattle.graph_updates.proofs.SeekingSteps.{helps_goes}
use Rattle.graph_updates.proofs.EdgeRaisesTell.{unraised_chain, unraised_for, unraised_helped, unraised_last}
use Rattle.graph_updates.proofs.EdgeRaisesTell.{unraised_pass, unraised_some}
use Rattle.graph_updates.proofs.EndsTell.{met_helped, met_linked}
use Rattle.graph_updates.proofs.LocatingTells.{helped_grows}
use Rattle.graph_updates.proofs.PairsTell.{linked_since}
use Rattle.graph_updates.proofs.edge_adding.turn.Goals as goal

pub change_pair-requires-clause-limit : goal.change_pair-requires-clause-limit
change_pair-requires-clause-limit c =
    let h = c.args.hand.now in
    let k = c.find_pair.new.hand in
    let helped = c.find_pair.ensures.helped in
    walk_limit h k k helped c.requires.nodes c.requires.limit

pub link_pair-requires-clause-limit : goal.link_pair-requires-clause-limit
link_pair-requires-clause-limit c =
    let h = c.args.hand.now in
    let k = c.find_pair.new.hand in
    let helped = c.find_pair.ensures.helped in
    walk_limit h k k helped c.requires.nodes c.requires.limit

pub change_pair-requires-clause-from : goal.change_pair-requires-clause-from
change_pair-requires-clause-from c =
    let h = c.args.hand.now in
    let k = c.find_pair.new.hand in
    let helped = c.find_pair.ensures.helped in
    met_helped h k c.requires.hand.of.layout helped c.args.ends.from c.requires.from

pub change_pair-requires-clause-to : goal.change_pair-requires-clause-to
change_pair-requires-clause-to c =
    let h = c.args.hand.now in
    let k = c.find_pair.new.hand in
    let helped = c.find_pair.ensures.helped in
    met_helped h k c.requires.hand.of.layout helped c.args.ends.to c.requires.to

pub link_pair-requires-clause-from : goal.link_pair-requires-clause-from
link_pair-requires-clause-from c =
    let h = c.args.hand.now in
    let k = c.find_pair.new.hand in
    let helped = c.find_pair.ensures.helped in
    met_helped h k c.requires.hand.of.layout helped c.args.ends.from c.requires.from

pub link_pair-requires-clause-to : goal.link_pair-requires-clause-to
link_pair-requires-clause-to c =
    let h = c.args.hand.now in
    let k = c.find_pair.new.hand in
    let helped = c.find_pair.ensures.helped in
    met_helped h k c.requires.hand.of.layout helped c.args.ends.to c.requires.to

pub check_ends-requires-clause-from : goal.check_ends-requires-clause-from
check_ends-requires-clause-from c =
    let h = c.args.hand.now in
    let k = c.find_pair.new.hand in
    let helped = c.find_pair.ensures.helped in
    met_helped h k c.requires.hand.of.layout helped c.args.ends.from c.requires.from

pub check_ends-requires-clause-to : goal.check_ends-requires-clause-to
check_ends-requires-clause-to c =
    let h = c.args.hand.now in
    let k = c.find_pair.new.hand in
    let helped = c.find_pair.ensures.helped in
    met_helped h k c.requires.hand.of.layout helped c.args.ends.to c.requires.to

pub change_pair-requires-clause-last : goal.change_pair-requires-clause-last
change_pair-requires-clause-last c =
    let h = c.args.hand.now in
    let k = c.find_pair.new.hand in
    let helped = c.find_pair.ensures.helped in
    let q = unraised_helped h k helped in
    subst (λ (b : ℕ). IsLastRaised c.args.ends.from b k.token.view c.args.raised.now)
    (sym c.in-Edge.ensures.found.0.key_is)
    (unraised_last h.token.view k.token.view q c.requires.hand.of.layout c.requires.hand.of.sound.kept
    c.args.ends.from c.requires.from
    c.args.to c.args.raised.now c.requires.last)

pub mark_stale-requires-clause-last : goal.mark_stale-requires-clause-last
mark_stale-requires-clause-last c =
    let h = c.args.hand.now in
    let k = c.find_pair.new.hand in
    let helped = c.find_pair.ensures.helped in
    let q = unraised_helped h k helped in
    subst (λ (b : ℕ). IsLastRaised c.args.ends.from b k.token.view c.args.raised.now)
    (sym c.in-Stale.ensures.found.0.key_is)
    (unraised_last h.token.view k.token.view q c.requires.hand.of.layout c.requires.hand.of.sound.kept
    c.args.ends.from c.requires.from
    c.args.to c.args.raised.now c.requires.last)

pub change_pair-requires-clause-raised : goal.change_pair-requires-clause-raised
change_pair-requires-clause-raised c =
    let h = c.args.hand.now in
    let k = c.find_pair.new.hand in
    let helped = c.find_pair.ensures.helped in
    let q = unraised_helped h k helped in
    unraised_some h.token.view k.token.view q c.args.ends.from c.args.raised.now c.requires.raised

pub mark_stale-requires-clause-raised : goal.mark_stale-requires-clause-raised
mark_stale-requires-clause-raised c =
    let h = c.args.hand.now in
    let k = c.find_pair.new.hand in
    let helped = c.find_pair.ensures.helped in
    let q = unraised_helped h k helped in
    unraised_some h.token.view k.token.view q c.args.ends.from c.args.raised.now c.requires.raised

pub link_pair-requires-clause-key : goal.link_pair-requires-clause-key
link_pair-requires-clause-key c =
    let h = c.args.hand.now in
    let k = c.find_pair.new.hand in
    let helped = c.find_pair.ensures.helped in
    linked_since h.token.view.front k.token.view.front (helped_grows h k helped) c.args.ends.to c.args.to
    c.requires.key

pub returns-in-Both-clause-pass : goal.returns-in-Both-clause-pass
returns-in-Both-clause-pass c =
    let h = c.args.hand.now in
    let k = c.find_pair.new.hand in
    let helped = c.find_pair.ensures.helped in
    let q = unraised_helped h k helped in
    let n = c.check_ends.new.hand in
    let r = unraised_chain h.token.view k.token.view n.token.view q (unraised_helped k n c.check_ends.ensures.helped) in
    unraised_pass h.token.view n.token.view r c.requires.hand.of.layout c.requires.pass

pub returns-in-Both-clause-last : goal.returns-in-Both-clause-last
returns-in-Both-clause-last c =
    let h = c.args.hand.now in
    let k = c.find_pair.new.hand in
    let helped = c.find_pair.ensures.helped in
    let q = unraised_helped h k helped in
    let n = c.check_ends.new.hand in
    let r = unraised_chain h.token.view k.token.view n.token.view q (unraised_helped k n c.check_ends.ensures.helped) in
    unraised_last h.token.view n.token.view r c.requires.hand.of.layout c.requires.hand.of.sound.kept c.args.ends.from
    c.requires.from
    c.args.to c.args.raised.now c.requires.last

pub returns-in-Both-clause-raised : goal.returns-in-Both-clause-raised
returns-in-Both-clause-raised c =
    let h = c.args.hand.now in
    let k = c.find_pair.new.hand in
    let helped = c.find_pair.ensures.helped in
    let q = unraised_helped h k helped in
    let n = c.check_ends.new.hand in
    let r = unraised_chain h.token.view k.token.view n.token.view q (unraised_helped k n c.check_ends.ensures.helped) in
    unraised_for h.token.view n.token.view r c.args.ends.from c.args.to c.args.raised.now

pub returns-in-Over-check_ends-clause-pass : goal.returns-in-Over-check_ends-clause-pass
returns-in-Over-check_ends-clause-pass c =
    let h = c.args.hand.now in
    let k = c.find_pair.new.hand in
    let helped = c.find_pair.ensures.helped in
    let q = unraised_helped h k helped in
    let n = c.check_ends.new.hand in
    let r = unraised_chain h.token.view k.token.view n.token.view q (unraised_helped k n c.check_ends.ensures.helped) in
    unraised_pass h.token.view n.token.view r c.requires.hand.of.layout c.requires.pass

pub returns-in-Over-check_ends-clause-last : goal.returns-in-Over-check_ends-clause-last
returns-in-Over-check_ends-clause-last c =
    let h = c.args.hand.now in
    let k = c.find_pair.new.hand in
    let helped = c.find_pair.ensures.helped in
    let q = unraised_helped h k helped in
    let n = c.check_ends.new.hand in
    let r = unraised_chain h.token.view k.token.view n.token.view q (unraised_helped k n c.check_ends.ensures.helped) in
    unraised_last h.token.view n.token.view r c.requires.hand.of.layout c.requires.hand.of.sound.kept c.args.ends.from
    c.requires.from
    c.args.to c.args.raised.now c.requires.last

pub returns-in-Over-check_ends-clause-raised : goal.returns-in-Over-check_ends-clause-raised
returns-in-Over-check_ends-clause-raised c =
    let h = c.args.hand.now in
    let k = c.find_pair.new.hand in
    let helped = c.find_pair.ensures.helped in
    let q = unraised_helped h k helped in
    let n = c.check_ends.new.hand in
    let r = unraised_chain h.token.view k.token.view n.token.view q (unraised_helped k n c.check_ends.ensures.helped) in
    unraised_for h.token.view n.token.view r c.args.ends.from c.args.to c.args.raised.now

pub returns-in-Over-clause-pass : goal.returns-in-Over-clause-pass
returns-in-Over-clause-pass c =
    let h = c.args.hand.now in
    let k = c.find_pair.new.hand in
    let helped = c.find_pair.ensures.helped in
    let q = unraised_helped h k helped in
    let r = q in
    unraised_pass h.token.view k.token.view r c.requires.hand.of.layout c.requires.pass

pub returns-in-Over-clause-last : goal.returns-in-Over-clause-last
returns-in-Over-clause-last c =
    let h = c.args.hand.now in
    let k = c.find_pair.new.hand in
    let helped = c.find_pair.ensures.helped in
    let q = unraised_helped h k helped in
    let r = q in
    unraised_last h.token.view k.token.view r c.requires.hand.of.layout c.requires.hand.of.sound.kept c.args.ends.from
    c.requires.from
    c.args.to c.args.raised.now c.requires.last

pub returns-in-Over-clause-raised : goal.returns-in-Over-clause-raised
returns-in-Over-clause-raised c =
    let h = c.args.hand.now in
    let k = c.find_pair.new.hand in
    let helped = c.find_pair.ensures.helped in
    let q = unraised_helped h k helped in
    let r = q in
    unraised_for h.token.view k.token.view r c.args.ends.from c.args.to c.args.raised.now

pub returns-in-Lost-clause-pass : goal.returns-in-Lost-clause-pass
returns-in-Lost-clause-pass c =
    let h = c.args.hand.now in
    let k = c.find_pair.new.hand in
    let helped = c.find_pair.ensures.helped in
    let q = unraised_helped h k helped in
    let r = q in
    unraised_pass h.token.view k.token.view r c.requires.hand.of.layout c.requires.pass

pub returns-in-Lost-clause-last : goal.returns-in-Lost-clause-last
returns-in-Lost-clause-last c =
    let h = c.args.hand.now in
    let k = c.find_pair.new.hand in
    let helped = c.find_pair.ensures.helped in
    let q = unraised_helped h k helped in
    let r = q in
    unraised_last h.token.view k.token.view r c.requires.hand.of.layout c.requires.hand.of.sound.kept c.args.ends.from
    c.requires.from
    c.args.to c.args.raised.now c.requires.last

pub returns-in-Lost-clause-raised : goal.returns-in-Lost-clause-raised
returns-in-Lost-clause-raised c =
    let h = c.args.hand.now in
    let k = c.find_pair.new.hand in
    let helped = c.find_pair.ensures.helped in
    let q = unraised_helped h k helped in
    let r = q in
    unraised_for h.token.view k.token.view r c.args.ends.from c.args.to c.args.raised.now

pub returns-in-Gone-clause-last : goal.returns-in-Gone-clause-last
returns-in-Gone-clause-last c =
    let h = c.args.hand.now in
    let k = c.find_pair.new.hand in
    let helped = c.find_pair.ensures.helped in
    let q = unraised_helped h k helped in
    let n = c.link_pair.new.hand in
    let r = unraised_chain h.token.view k.token.view n.token.view q c.link_pair.ensures.unraised in
    unraised_last h.token.view n.token.view r c.requires.hand.of.layout c.requires.hand.of.sound.kept c.args.ends.from
    c.requires.from
    c.args.to c.args.raised.now c.requires.last

pub returns-in-Gone-clause-raised : goal.returns-in-Gone-clause-raised
returns-in-Gone-clause-raised c =
    let h = c.args.hand.now in
    let k = c.find_pair.new.hand in
    let helped = c.find_pair.ensures.helped in
    let q = unraised_helped h k helped in
    let n = c.link_pair.new.hand in
    let r = unraised_chain h.token.view k.token.view n.token.view q c.link_pair.ensures.unraised in
    unraised_for h.token.view n.token.view r c.args.ends.from c.args.to c.args.raised.now

pub returns-in-Both-clause-turned : goal.returns-in-Both-clause-turned
returns-in-Both-clause-turned c = λ a from_key.
    let h = c.args.hand.now in
    let k = c.find_pair.new.hand in
    let helped = c.find_pair.ensures.helped in
    let n = c.check_ends.new.hand in
    turn_present h k n helped c.requires.nodes c.args.ends a c.args.to c.args.weight
    c.find_pair.ensures.hand.of.layout c.find_pair.ensures.hand.of.sound.kept from_key c.requires.key c.in-Edge.seen
    c.in-Edge.ensures.found.0 c.in-Edge.ensures.found.1 c.if-seen-weight.false c.check_ends.ensures.helped
    c.in-Both.ensures.alive

pub returns-in-Over-check_ends-clause-turned : goal.returns-in-Over-check_ends-clause-turned
returns-in-Over-check_ends-clause-turned c = λ a from_key.
    let h = c.args.hand.now in
    let k = c.find_pair.new.hand in
    let helped = c.find_pair.ensures.helped in
    turn_over h k c.check_ends.new.hand helped c.requires.nodes c.args.ends c.in-Over-check_ends.life
    c.check_ends.ensures.helped c.in-Over-check_ends.ensures.alive

pub returns-in-Over-clause-turned : goal.returns-in-Over-clause-turned
returns-in-Over-clause-turned c = λ a from_key.
    let h = c.args.hand.now in
    let k = c.find_pair.new.hand in
    record {
      on = helped_on true h k c.requires.nodes c.find_pair.ensures.helped;
      life = c.in-Over.life;
      lack_is = refl;
      one = c.in-Over.ensures.found.0;
      marked = c.in-Over.ensures.found.1;
    }

pub returns-in-Lost-clause-turned : goal.returns-in-Lost-clause-turned
returns-in-Lost-clause-turned c = λ a from_key. (
  helped_on true c.args.hand.now c.find_pair.new.hand c.requires.nodes c.find_pair.ensures.helped,
  c.in-Lost.ensures.found,
)

pub returns-in-Stale-clause-turned : goal.returns-in-Stale-clause-turned
returns-in-Stale-clause-turned c = λ a from_key.
    let h = c.args.hand.now in
    let k = c.find_pair.new.hand in
    let helped = c.find_pair.ensures.helped in
    turn_stale c.mark_stale.result h k c.mark_stale.new.hand c.args.ends.from c.args.to c.in-Stale.seen c.requires.nodes
    helped c.in-Stale.ensures.found.0 c.mark_stale.ensures.goes c.mark_stale.ensures.marked

pub returns-in-Gone-clause-turned : goal.returns-in-Gone-clause-turned
returns-in-Gone-clause-turned c = λ a from_key.
    let h = c.args.hand.now in
    let k = c.find_pair.new.hand in
    let helped = c.find_pair.ensures.helped in
    turn_link h k c.link_pair.new.hand helped c.requires.nodes c.args.ends a c.args.to c.args.weight
    c.find_pair.ensures.hand.of.layout c.find_pair.ensures.hand.of.sound.kept from_key c.requires.key
    c.link_pair.result c.in-Gone.gap c.in-Gone.ensures.found
    (c.link_pair.ensures.placed a
    (linked_since h.token.view.front k.token.view.front (helped_grows h k helped) c.args.ends.from a from_key))

pub returns-then-seen-weight-clause-turned : goal.returns-then-seen-weight-clause-turned
returns-then-seen-weight-clause-turned c = λ a from_key.
    let h = c.args.hand.now in
    let k = c.find_pair.new.hand in
    let helped = c.find_pair.ensures.helped in
    turn_change h k c.change_pair.new.hand helped c.requires.nodes c.args.ends a c.args.to c.args.weight
    c.find_pair.ensures.hand.of.layout c.find_pair.ensures.hand.of.sound.kept from_key c.requires.key
    c.change_pair.result c.in-Edge.seen c.in-Edge.ensures.found.0 c.in-Edge.ensures.found.1 c.if-seen-weight.true
    (c.change_pair.ensures.placed a
    (linked_since h.token.view.front k.token.view.front (helped_grows h k helped) c.args.ends.from a from_key))

pub returns-then-seen-weight-clause-stays : goal.returns-then-seen-weight-clause-stays
returns-then-seen-weight-clause-stays c = λ m is.
    let h = c.args.hand.now in
    let k = c.find_pair.new.hand in
    let helped = c.find_pair.ensures.helped in
    let from = met_linked k.token.view c.find_pair.ensures.hand.of.layout c.find_pair.ensures.hand.of.sound
    c.args.ends.from
    (met_helped h k c.requires.hand.of.layout helped c.args.ends.from c.requires.from) in
    absurd (not_stale c.change_pair.result (Changed c.in-Edge.seen.edge.weight) (turn.FullAtEdge c.in-Edge.seen)
    c.args.ends from.0 c.in-Edge.seen.edge.key c.args.weight c.in-Edge.seen.moment.value.view.front k
    c.change_pair.new.hand m (c.change_pair.ensures.placed from.0 from.1) is)

pub returns-in-Gone-clause-stays : goal.returns-in-Gone-clause-stays
returns-in-Gone-clause-stays c = λ m is.
    let h = c.args.hand.now in
    let k = c.find_pair.new.hand in
    let helped = c.find_pair.ensures.helped in
    let from = met_linked k.token.view c.find_pair.ensures.hand.of.layout c.find_pair.ensures.hand.of.sound
    c.args.ends.from
    (met_helped h k c.requires.hand.of.layout helped c.args.ends.from c.requires.from) in
    absurd (not_stale c.link_pair.result Added (turn.FullAtGap c.in-Gone.gap) c.args.ends from.0 c.args.to
    c.args.weight c.in-Gone.gap.moment k c.link_pair.new.hand m (c.link_pair.ensures.placed from.0 from.1) is)

pub returns-in-Both-clause-stays : goal.returns-in-Both-clause-stays
returns-in-Both-clause-stays c = λ m is.
    absurd (cc)

pub returns-in-Over-check_ends-clause-stays : goal.returns-in-Over-check_ends-clause-stays
returns-in-Over-check_ends-clause-stays c = λ m is.
    absurd (cc)

pub returns-in-Over-clause-stays : goal.returns-in-Over-clause-stays
returns-in-Over-clause-stays c = λ m is.
    absurd (cc)

pub returns-in-Lost-clause-stays : goal.returns-in-Lost-clause-stays
returns-in-Lost-clause-stays c = λ m is.
    absurd (cc)

pub returns-in-Stale-clause-stays : goal.returns-in-Stale-clause-stays
returns-in-Stale-clause-stays c = λ m is.
    let h = c.args.hand.now in
    let k = c.find_pair.new.hand in
    let helped = c.find_pair.ensures.helped in
    goes_further h.token.view k.token.view c.mark_stale.new.hand.token.view
    (helps_goes h.token.view k.token.view helped.helped.only) c.mark_stale.ensures.stays
