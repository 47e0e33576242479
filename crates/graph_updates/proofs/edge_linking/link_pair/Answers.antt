use Rattle.std.proofs.Common.{refl}
use Rattle.graph_kinds.specs.declared.outcome.Outcome.TheVariants.{Added}
use Rattle.graph_updates.specs.EdgeChanging.{holding}
use Rattle.graph_updates.specs.declared.edge_adding.AddTurn.TheVariants as turn
use Rattle.graph_updates.proofs.AddingAddsUp.{fell_since}
use Rattle.graph_updates.proofs.EdgeAddingAddsUp.{free_gap, free_grows, free_key, free_met, free_unraised, gap_before}
use Rattle.graph_updates.proofs.EdgeAddingAddsUp.{free_pass, placed_earlier}
use Rattle.graph_updates.proofs.EdgeRaisesTell.{unraised_chain, unraised_helped}
use Rattle.graph_updates.proofs.EdgeReplacingTells.{none_bare, none_over}
use Rattle.graph_updates.proofs.EdgeLinkingTells.{at_free}
use Rattle.graph_updates.proofs.SeekingSteps.{helps_pass}
use Rattle.graph_updates.proofs.edge_linking.link_pair.Goals as goal

pub put_pair-requires-clause-from : goal.put_pair-requires-clause-from
put_pair-requires-clause-from c = free_met c.args.hand.now.token.view c.ready_node.new.hand.token.view
    (at_free c.ready_node.result c.args.hand.now c.ready_node.new.hand
    c.ready_node.ensures.ready) c.requires.hand.of.layout c.args.ends.from c.requires.from

pub put_pair-requires-clause-to : goal.put_pair-requires-clause-to
put_pair-requires-clause-to c = free_met c.args.hand.now.token.view c.ready_node.new.hand.token.view
    (at_free c.ready_node.result c.args.hand.now c.ready_node.new.hand
    c.ready_node.ensures.ready) c.requires.hand.of.layout c.args.ends.to c.requires.to

pub put_pair-requires-clause-key : goal.put_pair-requires-clause-key
put_pair-requires-clause-key c = free_key c.args.hand.now.token.view c.ready_node.new.hand.token.view
    (at_free c.ready_node.result c.args.hand.now c.ready_node.new.hand
    c.ready_node.ensures.ready) c.requires.hand.of.layout c.args.ends.to c.args.to c.requires.key

pub put_pair-requires-clause-gap : goal.put_pair-requires-clause-gap
put_pair-requires-clause-gap c = free_gap c.args.hand.now.token.view c.ready_node.new.hand.token.view
    (at_free c.ready_node.result c.args.hand.now c.ready_node.new.hand
    c.ready_node.ensures.ready) c.requires.hand.of.layout c.args.gap c.requires.gap

pub check_ends-requires-clause-from : goal.check_ends-requires-clause-from
check_ends-requires-clause-from c = free_met c.args.hand.now.token.view c.ready_node.new.hand.token.view
    (at_free c.ready_node.result c.args.hand.now c.ready_node.new.hand
    c.ready_node.ensures.ready) c.requires.hand.of.layout c.args.ends.from c.requires.from

pub check_ends-requires-clause-to : goal.check_ends-requires-clause-to
check_ends-requires-clause-to c = free_met c.args.hand.now.token.view c.ready_node.new.hand.token.view
    (at_free c.ready_node.result c.args.hand.now c.ready_node.new.hand
    c.ready_node.ensures.ready) c.requires.hand.of.layout c.args.ends.to c.requires.to

pub returns-in-Node-clause-unraised : goal.returns-in-Node-clause-unraised
returns-in-Node-clause-unraised c =
    let v = c.args.hand.now.token.view in
    let u = c.ready_node.new.hand.token.view in
    unraised_chain v u c.put_pair.new.hand.token.view (free_unraised v u (at_free c.ready_node.result c.args.hand.now
    c.ready_node.new.hand
    c.ready_node.ensures.ready))
    c.put_pair.ensures.unraised

pub returns-in-Node-clause-placed : goal.returns-in-Node-clause-placed
returns-in-Node-clause-placed c = λ a from_key.
    let h = c.args.hand.now in
    let m = c.ready_node.new.hand in
    let k = holding m c.in-Node.fresh in
    let key = free_key h.token.view m.token.view (at_free c.ready_node.result c.args.hand.now c.ready_node.new.hand
    c.ready_node.ensures.ready) c.requires.hand.of.layout c.args.ends.from a
    from_key in
    placed_earlier h k c.put_pair.new.hand c.in-Node.ensures.ready.on c.put_pair.result Added
    (turn.FullAtGap c.args.gap) c.args.ends a c.args.to c.args.weight c.args.gap.moment
    (c.put_pair.ensures.placed a key)

pub returns-in-Both-clause-pass : goal.returns-in-Both-clause-pass
returns-in-Both-clause-pass c = helps_pass c.ready_node.new.hand.token.view c.check_ends.new.hand.token.view
    c.ready_node.ensures.hand.of.layout c.check_ends.ensures.helped.helped.only (free_pass c.args.hand.now.token.view
    c.ready_node.new.hand.token.view
    (at_free c.ready_node.result c.args.hand.now c.ready_node.new.hand c.ready_node.ensures.ready)
    c.requires.hand.of.layout c.requires.pass)

pub returns-in-Both-clause-unraised : goal.returns-in-Both-clause-unraised
returns-in-Both-clause-unraised c =
    let v = c.args.hand.now.token.view in
    let m = c.ready_node.new.hand in
    unraised_chain v m.token.view c.check_ends.new.hand.token.view (free_unraised v m.token.view (at_free
    c.ready_node.result c.args.hand.now c.ready_node.new.hand
    c.ready_node.ensures.ready))
    (unraised_helped m c.check_ends.new.hand c.check_ends.ensures.helped)

pub returns-in-Both-clause-placed : goal.returns-in-Both-clause-placed
returns-in-Both-clause-placed c = λ a from_key. (
  refl,
  none_bare c.args.ends c.args.hand.now c.ready_node.new.hand c.check_ends.new.hand c.in-Empty.ensures.ready.0
      c.in-Empty.ensures.ready.1 c.check_ends.ensures.helped c.in-Both.ensures.alive.0 c.in-Both.ensures.alive.1,
)

pub returns-in-Over-clause-pass : goal.returns-in-Over-clause-pass
returns-in-Over-clause-pass c = helps_pass c.ready_node.new.hand.token.view c.check_ends.new.hand.token.view
    c.ready_node.ensures.hand.of.layout c.check_ends.ensures.helped.helped.only (free_pass c.args.hand.now.token.view
    c.ready_node.new.hand.token.view
    (at_free c.ready_node.result c.args.hand.now c.ready_node.new.hand c.ready_node.ensures.ready)
    c.requires.hand.of.layout c.requires.pass)

pub returns-in-Over-clause-unraised : goal.returns-in-Over-clause-unraised
returns-in-Over-clause-unraised c =
    let v = c.args.hand.now.token.view in
    let m = c.ready_node.new.hand in
    unraised_chain v m.token.view c.check_ends.new.hand.token.view (free_unraised v m.token.view (at_free
    c.ready_node.result c.args.hand.now c.ready_node.new.hand
    c.ready_node.ensures.ready))
    (unraised_helped m c.check_ends.new.hand c.check_ends.ensures.helped)

pub returns-in-Over-clause-placed : goal.returns-in-Over-clause-placed
returns-in-Over-clause-placed c = λ a from_key. none_over c.args.ends c.args.hand.now c.ready_node.new.hand
    c.check_ends.new.hand c.in-Over.life c.in-Empty.ensures.ready.0 c.check_ends.ensures.helped c.in-Over.ensures.alive

pub returns-in-Lost-clause-unraised : goal.returns-in-Lost-clause-unraised
returns-in-Lost-clause-unraised c = free_unraised c.args.hand.now.token.view c.ready_node.new.hand.token.view
    (at_free c.ready_node.result c.args.hand.now c.ready_node.new.hand
    c.ready_node.ensures.ready)

pub returns-in-Lost-clause-placed : goal.returns-in-Lost-clause-placed
returns-in-Lost-clause-placed c = λ a from_key.
    let h = c.args.hand.now in
    let m = c.ready_node.new.hand in
    let v = h.token.view in (
      c.in-Lost.ensures.ready.0.on,
      fell_since 1 m.token.view.number c.args.gap.moment v.front m.token.view.front
          (gap_before v c.args.gap c.requires.gap)
          (free_grows v m.token.view (at_free c.ready_node.result c.args.hand.now c.ready_node.new.hand
          c.ready_node.ensures.ready) c.requires.hand.of.layout) c.in-Lost.ensures.ready.1,
    )

pub put_pair-requires-clause-pass : goal.put_pair-requires-clause-pass
put_pair-requires-clause-pass c = free_pass c.args.hand.now.token.view c.ready_node.new.hand.token.view
    (at_free c.ready_node.result c.args.hand.now c.ready_node.new.hand c.ready_node.ensures.ready)
    c.requires.hand.of.layout c.requires.pass

pub returns-in-Lost-clause-pass : goal.returns-in-Lost-clause-pass
returns-in-Lost-clause-pass c = free_pass c.args.hand.now.token.view c.ready_node.new.hand.token.view
    (at_free c.ready_node.result c.args.hand.now c.ready_node.new.hand c.ready_node.ensures.ready)
    c.requires.hand.of.layout c.requires.pass
