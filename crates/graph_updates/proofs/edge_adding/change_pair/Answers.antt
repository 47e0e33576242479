use Rattle.std.proofs.Common.{Bool, refl, subst}
use Rattle.core_rule.proofs.ViewShows.{vertex_still}
use Rattle.edge_list.specs.EdgePositions.{IsUnmarkedEdge}
use Rattle.graph_updates.specs.EdgeChanging.{MatchReplacedOnce, holding}
use Rattle.graph_updates.proofs.EdgeRaisesTell.{raises_then, unraised_chain, unraised_for, unraised_helped}
use Rattle.graph_updates.proofs.EdgeRaisesTell.{unraised_goes, unraised_last, unraised_met, unraised_pass}
use Rattle.graph_updates.proofs.EdgeRaisesTell.{unraised_some}
use Rattle.graph_updates.proofs.EdgeReplacingTells.{change_lost, changed_placed, none_bare, none_over, none_unraised}
use Rattle.graph_updates.proofs.EdgeReplacingTells.{ready_seen, take_lost}
use Rattle.graph_updates.proofs.LocatingTells.{between_later}
use Rattle.graph_updates.proofs.edge_adding.change_pair.Goals as goal

pub check_ends-requires-clause-from : goal.check_ends-requires-clause-from
check_ends-requires-clause-from c =
    let h = c.args.hand.now in
    let j = c.ready_node.new.hand in
    let first = none_unraised h j c.in-Empty.ensures.ready.0 in
    unraised_met h.token.view j.token.view first c.requires.hand.of.layout c.args.ends.from c.requires.from

pub check_ends-requires-clause-to : goal.check_ends-requires-clause-to
check_ends-requires-clause-to c =
    let h = c.args.hand.now in
    let j = c.ready_node.new.hand in
    let first = none_unraised h j c.in-Empty.ensures.ready.0 in
    unraised_met h.token.view j.token.view first c.requires.hand.of.layout c.args.ends.to c.requires.to

pub returns-in-Both-clause-pass : goal.returns-in-Both-clause-pass
returns-in-Both-clause-pass c =
    let h = c.args.hand.now in
    let j = c.ready_node.new.hand in
    let first = none_unraised h j c.in-Empty.ensures.ready.0 in
    let n = c.check_ends.new.hand in
    let all = unraised_chain h.token.view j.token.view n.token.view first
    (unraised_helped j n c.check_ends.ensures.helped) in
    unraised_pass h.token.view n.token.view all c.requires.hand.of.layout c.requires.pass

pub returns-in-Both-clause-last : goal.returns-in-Both-clause-last
returns-in-Both-clause-last c =
    let h = c.args.hand.now in
    let j = c.ready_node.new.hand in
    let first = none_unraised h j c.in-Empty.ensures.ready.0 in
    let n = c.check_ends.new.hand in
    let all = unraised_chain h.token.view j.token.view n.token.view first
    (unraised_helped j n c.check_ends.ensures.helped) in
    unraised_last h.token.view n.token.view all c.requires.hand.of.layout c.requires.hand.of.sound.kept c.args.ends.from
    c.requires.from c.args.seen.edge.key c.args.raised.now c.requires.last

pub returns-in-Both-clause-raised : goal.returns-in-Both-clause-raised
returns-in-Both-clause-raised c =
    let h = c.args.hand.now in
    let j = c.ready_node.new.hand in
    let first = none_unraised h j c.in-Empty.ensures.ready.0 in
    let n = c.check_ends.new.hand in
    let all = unraised_chain h.token.view j.token.view n.token.view first
    (unraised_helped j n c.check_ends.ensures.helped) in
    λ old helped here. unraised_for old.token.view n.token.view
    (unraised_chain old.token.view h.token.view n.token.view (unraised_helped old h helped) all) c.args.ends.from
    c.args.seen.edge.key c.args.raised.now

pub returns-in-Both-clause-placed : goal.returns-in-Both-clause-placed
returns-in-Both-clause-placed c =
    let h = c.args.hand.now in
    let j = c.ready_node.new.hand in
    let first = none_unraised h j c.in-Empty.ensures.ready.0 in
    let n = c.check_ends.new.hand in
    let all = unraised_chain h.token.view j.token.view n.token.view first
    (unraised_helped j n c.check_ends.ensures.helped) in
    λ a key. (
      refl,
      none_bare c.args.ends h j n c.in-Empty.ensures.ready.0 c.in-Empty.ensures.ready.1
          c.check_ends.ensures.helped c.in-Both.ensures.alive.0 c.in-Both.ensures.alive.1,
    )

pub returns-in-Over-clause-pass : goal.returns-in-Over-clause-pass
returns-in-Over-clause-pass c =
    let h = c.args.hand.now in
    let j = c.ready_node.new.hand in
    let first = none_unraised h j c.in-Empty.ensures.ready.0 in
    let n = c.check_ends.new.hand in
    let all = unraised_chain h.token.view j.token.view n.token.view first
    (unraised_helped j n c.check_ends.ensures.helped) in
    unraised_pass h.token.view n.token.view all c.requires.hand.of.layout c.requires.pass

pub returns-in-Over-clause-last : goal.returns-in-Over-clause-last
returns-in-Over-clause-last c =
    let h = c.args.hand.now in
    let j = c.ready_node.new.hand in
    let first = none_unraised h j c.in-Empty.ensures.ready.0 in
    let n = c.check_ends.new.hand in
    let all = unraised_chain h.token.view j.token.view n.token.view first
    (unraised_helped j n c.check_ends.ensures.helped) in
    unraised_last h.token.view n.token.view all c.requires.hand.of.layout c.requires.hand.of.sound.kept c.args.ends.from
    c.requires.from c.args.seen.edge.key c.args.raised.now c.requires.last

pub returns-in-Over-clause-raised : goal.returns-in-Over-clause-raised
returns-in-Over-clause-raised c =
    let h = c.args.hand.now in
    let j = c.ready_node.new.hand in
    let first = none_unraised h j c.in-Empty.ensures.ready.0 in
    let n = c.check_ends.new.hand in
    let all = unraised_chain h.token.view j.token.view n.token.view first
    (unraised_helped j n c.check_ends.ensures.helped) in
    λ old helped here. unraised_for old.token.view n.token.view
    (unraised_chain old.token.view h.token.view n.token.view (unraised_helped old h helped) all) c.args.ends.from
    c.args.seen.edge.key c.args.raised.now

pub returns-in-Over-clause-placed : goal.returns-in-Over-clause-placed
returns-in-Over-clause-placed c =
    let h = c.args.hand.now in
    let j = c.ready_node.new.hand in
    let first = none_unraised h j c.in-Empty.ensures.ready.0 in
    let n = c.check_ends.new.hand in
    let all = unraised_chain h.token.view j.token.view n.token.view first
    (unraised_helped j n c.check_ends.ensures.helped) in
    λ a key. none_over c.args.ends h j n c.in-Over.life c.in-Empty.ensures.ready.0 c.check_ends.ensures.helped
    c.in-Over.ensures.alive

pub returns-in-Lost-clause-pass : goal.returns-in-Lost-clause-pass
returns-in-Lost-clause-pass c =
    let h = c.args.hand.now in
    let j = c.ready_node.new.hand in
    let all = none_unraised h j c.in-Lost.ensures.ready.0 in
    unraised_pass h.token.view j.token.view all c.requires.hand.of.layout c.requires.pass

pub returns-in-Lost-clause-last : goal.returns-in-Lost-clause-last
returns-in-Lost-clause-last c =
    let h = c.args.hand.now in
    let j = c.ready_node.new.hand in
    let all = none_unraised h j c.in-Lost.ensures.ready.0 in
    unraised_last h.token.view j.token.view all c.requires.hand.of.layout c.requires.hand.of.sound.kept c.args.ends.from
    c.requires.from c.args.seen.edge.key c.args.raised.now c.requires.last

pub returns-in-Lost-clause-raised : goal.returns-in-Lost-clause-raised
returns-in-Lost-clause-raised c =
    let h = c.args.hand.now in
    let j = c.ready_node.new.hand in
    let all = none_unraised h j c.in-Lost.ensures.ready.0 in
    λ old helped here. unraised_for old.token.view j.token.view
    (unraised_chain old.token.view h.token.view j.token.view (unraised_helped old h helped) all) c.args.ends.from
    c.args.seen.edge.key c.args.raised.now

pub returns-in-Lost-clause-placed : goal.returns-in-Lost-clause-placed
returns-in-Lost-clause-placed c =
    let h = c.args.hand.now in
    let j = c.ready_node.new.hand in
    let all = none_unraised h j c.in-Lost.ensures.ready.0 in
    λ a key. take_lost h j c.args.ends.from c.args.seen c.in-Lost.ensures.ready.0 c.requires.seen
    c.in-Lost.ensures.ready.1

pub replace_once-requires-clause-pass : goal.replace_once-requires-clause-pass
replace_once-requires-clause-pass c =
    let h = c.args.hand.now in
    let j = c.ready_node.new.hand in
    let ready = c.in-Node.ensures.ready in
    let first = ready.unraised in
    unraised_pass h.token.view j.token.view first c.requires.hand.of.layout c.requires.pass

pub replace_once-requires-clause-seen : goal.replace_once-requires-clause-seen
replace_once-requires-clause-seen c =
    let h = c.args.hand.now in
    let j = c.ready_node.new.hand in
    let ready = c.in-Node.ensures.ready in
    let first = ready.unraised in
    ready_seen h j c.in-Node.fresh c.requires.hand.of.layout ready c.args.ends.from c.args.seen.edge
    c.args.seen.moment.value.view.front c.requires.seen

pub replace_once-requires-clause-last : goal.replace_once-requires-clause-last
replace_once-requires-clause-last c =
    let h = c.args.hand.now in
    let j = c.ready_node.new.hand in
    let ready = c.in-Node.ensures.ready in
    let first = ready.unraised in
    unraised_last h.token.view j.token.view first c.requires.hand.of.layout c.requires.hand.of.sound.kept
    c.args.ends.from c.requires.from c.args.seen.edge.key c.args.raised.now c.requires.last

pub replace_once-requires-clause-raised : goal.replace_once-requires-clause-raised
replace_once-requires-clause-raised c =
    let h = c.args.hand.now in
    let j = c.ready_node.new.hand in
    let ready = c.in-Node.ensures.ready in
    let first = ready.unraised in
    unraised_some h.token.view j.token.view first c.args.ends.from c.args.raised.now c.requires.raised

pub returns-then-not-replace_once-clause-raised : goal.returns-then-not-replace_once-clause-raised
returns-then-not-replace_once-clause-raised c =
    let h = c.args.hand.now in
    let j = c.ready_node.new.hand in
    let ready = c.in-Node.ensures.ready in
    let first = ready.unraised in
    let moment = c.args.seen.moment.value.view.front in
    λ old helped here. c.replace_once.ensures.raised old.token.view
    (unraised_chain old.token.view h.token.view j.token.view (unraised_helped old h helped) first)
    (between_later (IsUnmarkedEdge c.args.ends.from c.args.seen.edge) old.token.view.front h.token.view.front
    j.token.view.front moment (unraised_goes h.token.view j.token.view first).grows here.there)

pub returns-then-not-replace_once-clause-placed : goal.returns-then-not-replace_once-clause-placed
returns-then-not-replace_once-clause-placed c =
    let h = c.args.hand.now in
    let j = c.ready_node.new.hand in
    let ready = c.in-Node.ensures.ready in
    let first = ready.unraised in
    let k = c.replace_once.new.hand in
    let lost = subst (λ (b : Bool). MatchReplacedOnce b c.args.ends.from c.args.seen c.args.weight
    (holding j c.in-Node.fresh) k) c.if-not-replace_once.true c.replace_once.ensures.replaced in
    λ a key. change_lost h j k c.in-Node.fresh c.args.ends.from c.args.seen c.args.weight ready lost

pub conclude_at-requires-clause-from : goal.conclude_at-requires-clause-from
conclude_at-requires-clause-from c =
    let h = c.args.hand.now in
    let j = c.ready_node.new.hand in
    let ready = c.in-Node.ensures.ready in
    let first = ready.unraised in
    let k = c.replace_once.new.hand in
    vertex_still j.token.view k.token.view c.ready_node.ensures.hand.of.layout c.replace_once.ensures.stays
    c.args.ends.from
    (unraised_met h.token.view j.token.view first c.requires.hand.of.layout c.args.ends.from c.requires.from)

pub conclude_at-requires-clause-to : goal.conclude_at-requires-clause-to
conclude_at-requires-clause-to c =
    let h = c.args.hand.now in
    let j = c.ready_node.new.hand in
    let ready = c.in-Node.ensures.ready in
    let first = ready.unraised in
    let k = c.replace_once.new.hand in
    vertex_still j.token.view k.token.view c.ready_node.ensures.hand.of.layout c.replace_once.ensures.stays
    c.args.ends.to
    (unraised_met h.token.view j.token.view first c.requires.hand.of.layout c.args.ends.to c.requires.to)

pub returns-clause-pass : goal.returns-clause-pass
returns-clause-pass c =
    let h = c.args.hand.now in
    let j = c.ready_node.new.hand in
    let ready = c.in-Node.ensures.ready in
    let first = ready.unraised in
    let k = c.replace_once.new.hand in
    let n = c.conclude_at.new.hand in
    let more = unraised_helped k n c.conclude_at.ensures.helped in
    unraised_pass k.token.view n.token.view more c.replace_once.ensures.hand.of.layout c.replace_once.ensures.pass

pub returns-clause-last : goal.returns-clause-last
returns-clause-last c =
    let h = c.args.hand.now in
    let j = c.ready_node.new.hand in
    let ready = c.in-Node.ensures.ready in
    let first = ready.unraised in
    let k = c.replace_once.new.hand in
    let n = c.conclude_at.new.hand in
    let more = unraised_helped k n c.conclude_at.ensures.helped in
    unraised_last k.token.view n.token.view more c.replace_once.ensures.hand.of.layout
    c.replace_once.ensures.hand.of.sound.kept c.args.ends.from
    (vertex_still j.token.view k.token.view c.ready_node.ensures.hand.of.layout c.replace_once.ensures.stays
    c.args.ends.from
    (unraised_met h.token.view j.token.view first c.requires.hand.of.layout c.args.ends.from c.requires.from))
    c.args.seen.edge.key c.replace_once.new.raised c.replace_once.ensures.last

pub returns-clause-raised : goal.returns-clause-raised
returns-clause-raised c =
    let h = c.args.hand.now in
    let j = c.ready_node.new.hand in
    let ready = c.in-Node.ensures.ready in
    let first = ready.unraised in
    let k = c.replace_once.new.hand in
    let n = c.conclude_at.new.hand in
    let more = unraised_helped k n c.conclude_at.ensures.helped in
    let moment = c.args.seen.moment.value.view.front in
    λ old helped here. raises_then k.token.view n.token.view more c.args.ends.from c.args.seen.edge.key
    c.args.raised.now c.replace_once.new.raised old.token.view
    (c.replace_once.ensures.raised old.token.view
    (unraised_chain old.token.view h.token.view j.token.view (unraised_helped old h helped) first)
    (between_later (IsUnmarkedEdge c.args.ends.from c.args.seen.edge) old.token.view.front h.token.view.front
    j.token.view.front moment (unraised_goes h.token.view j.token.view first).grows here.there))

pub returns-clause-placed : goal.returns-clause-placed
returns-clause-placed c =
    let h = c.args.hand.now in
    let j = c.ready_node.new.hand in
    let ready = c.in-Node.ensures.ready in
    let first = ready.unraised in
    let k = c.replace_once.new.hand in
    let n = c.conclude_at.new.hand in
    let more = unraised_helped k n c.conclude_at.ensures.helped in
    let rep = subst (λ (b : Bool). MatchReplacedOnce b c.args.ends.from c.args.seen c.args.weight
    (holding j c.in-Node.fresh) k) c.if-not-replace_once.false c.replace_once.ensures.replaced in
    λ a key. changed_placed h j k n c.args.ends c.args.seen a c.args.weight c.in-Node.fresh
    c.replace_once.ensures.hand.of.layout c.replace_once.ensures.hand.of.sound.kept ready rep
    c.conclude_at.ensures.helped key c.requires.target c.requires.other c.conclude_at.result
    c.conclude_at.ensures.concluded
