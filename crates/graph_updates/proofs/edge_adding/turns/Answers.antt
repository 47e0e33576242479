use Rattle.std.proofs.Common.{ap, ◌∙◌, subst}
use Rattle.core_rule.proofs.ViewShows.{vertex_still}
use Rattle.graph_updates.specs.EdgeAdding.{MatchAddTurn}
use Rattle.graph_updates.specs.declared.edge_adding.AddTurn.{AddTurn}
use Rattle.graph_updates.specs.declared.edge_adding.AddTurn.TheVariants as turn
use Rattle.graph_updates.proofs.EdgeAddingAddsUp.{first_limit, turn_only, turns_told}
use Rattle.graph_updates.proofs.EdgeRaisesTell.{raises_chain, some_after}
use Rattle.graph_updates.proofs.EndsTell.{key_later, met_linked}
use Rattle.graph_updates.proofs.edge_adding.turns.Goals as goal

pub turn-requires-in-Won-clause-nodes : goal.turn-requires-in-Won-clause-nodes
turn-requires-in-Won-clause-nodes c =
    let h = c.args.hand.now in
    let k = c.turn.new.hand in
    let is = c.in-Stale.is ∙ ap turn.Stale c.in-Won.is in
    let from = met_linked h.token.view c.requires.hand.of.layout c.requires.hand.of.sound c.args.ends.from
    c.requires.from in
    let first = subst (λ (r : AddTurn). MatchAddTurn r c.args.ends from.0 c.args.to c.args.weight h k) is
    (c.turn.ensures.turned from.0 from.1) in
    first.0.nodes

pub turn-requires-in-Won-clause-limit : goal.turn-requires-in-Won-clause-limit
turn-requires-in-Won-clause-limit c =
    let h = c.args.hand.now in
    let k = c.turn.new.hand in
    let is = c.in-Stale.is ∙ ap turn.Stale c.in-Won.is in
    let from = met_linked h.token.view c.requires.hand.of.layout c.requires.hand.of.sound c.args.ends.from
    c.requires.from in
    let first = subst (λ (r : AddTurn). MatchAddTurn r c.args.ends from.0 c.args.to c.args.weight h k) is
    (c.turn.ensures.turned from.0 from.1) in
    first_limit h k k c.args.ends from.0 c.args.to c.args.weight first c.requires.limit

pub turn-requires-in-Won-clause-from : goal.turn-requires-in-Won-clause-from
turn-requires-in-Won-clause-from c = vertex_still c.args.hand.now.token.view c.turn.new.hand.token.view
    c.requires.hand.of.layout (c.turn.ensures.stays c.in-Stale.marked c.in-Stale.is) c.args.ends.from
    c.requires.from

pub turn-requires-in-Won-clause-to : goal.turn-requires-in-Won-clause-to
turn-requires-in-Won-clause-to c = vertex_still c.args.hand.now.token.view c.turn.new.hand.token.view
    c.requires.hand.of.layout (c.turn.ensures.stays c.in-Stale.marked c.in-Stale.is) c.args.ends.to
    c.requires.to

pub turn-requires-in-Won-clause-key : goal.turn-requires-in-Won-clause-key
turn-requires-in-Won-clause-key c = key_later c.args.hand.now.token.view c.turn.new.hand.token.view
    (c.turn.ensures.stays c.in-Stale.marked c.in-Stale.is).grows c.args.ends.to c.args.to c.requires.key

pub turn-requires-in-Won-clause-raised : goal.turn-requires-in-Won-clause-raised
turn-requires-in-Won-clause-raised c = some_after c.args.ends.from c.args.to c.args.raised.now c.turn.new.raised
    c.args.hand.now.token.view c.turn.new.hand.token.view
    (c.turn.ensures.stays c.in-Stale.marked c.in-Stale.is).grows c.requires.last c.turn.ensures.raised
    c.requires.raised

pub returns-in-Won-clause-raised : goal.returns-in-Won-clause-raised
returns-in-Won-clause-raised c = raises_chain c.args.ends.from c.args.to c.args.raised.now c.turn.new.raised
    c.turn-in-Won.new.raised c.args.hand.now.token.view c.turn.new.hand.token.view
    c.turn-in-Won.new.hand.token.view (c.turn.ensures.stays c.in-Stale.marked c.in-Stale.is).grows
    c.turn.ensures.last c.turn.ensures.raised c.turn-in-Won.ensures.raised

pub returns-in-Won-clause-turned : goal.returns-in-Won-clause-turned
returns-in-Won-clause-turned c = λ a from_key.
    let h = c.args.hand.now in
    let k = c.turn.new.hand in
    let is = c.in-Stale.is ∙ ap turn.Stale c.in-Won.is in
    let grows = (c.turn.ensures.stays c.in-Stale.marked c.in-Stale.is).grows in
    let first = subst (λ (r : AddTurn). MatchAddTurn r c.args.ends a c.args.to c.args.weight h k) is
    (c.turn.ensures.turned a from_key) in
    turns_told h k c.turn-in-Won.new.hand c.args.ends a c.args.to c.args.weight first c.turn-in-Won.result
    (c.turn-in-Won.ensures.turned a
    (key_later h.token.view k.token.view grows c.args.ends.from a from_key))

pub returns-in_default : goal.returns-in_default
returns-in_default c = record {
  hand = c.turn.ensures.hand;
  pass = c.turn.ensures.pass;
  last = c.turn.ensures.last;
  raised = c.turn.ensures.raised;
  turned = λ a from_key. turn_only c.turn.result c.args.hand.now c.turn.new.hand c.args.ends a c.args.to c.args.weight
      c.in_default.not-Stale (c.turn.ensures.turned a from_key);
}
