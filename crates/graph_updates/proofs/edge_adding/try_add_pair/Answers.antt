use Rattle.std.proofs.Common.{◌+◌, ◌-◌, true, refl, sym, ◌∙◌, subst}
use Rattle.graph_updates.specs.EdgeAdding.{MatchEdgeAddTried}
use Rattle.graph_updates.specs.declared.edge_adding.EdgeAddTried.{EdgeAddTried}
use Rattle.graph_updates.proofs.AddingAddsUp.{helped_on}
use Rattle.graph_updates.proofs.EdgeAddingAddsUp.{lost_fell, lost_told, tried_told, turns_grow, walk_limit}
use Rattle.graph_updates.proofs.EdgeRaisesTell.{kept_by, kept_unraised, last_located, raised_on, some_located}
use Rattle.graph_updates.proofs.EdgeRaisesTell.{unraised_helped, unraised_on}
use Rattle.graph_updates.proofs.EdgeRemovingTells.{lost_same}
use Rattle.graph_updates.proofs.LookingTells.{still_less}
use Rattle.graph_updates.proofs.PairsTell.{from_linked, key_lacks, linked_since, to_linked}
use Rattle.graph_updates.proofs.SeekingSteps.{helps_pass}
use Rattle.graph_updates.proofs.edge_adding.try_add_pair.Goals as goal

pub returns-in-Gone-clause-last : goal.returns-in-Gone-clause-last
returns-in-Gone-clause-last c =
    let h = c.args.hand.now in
    let k = c.locate_ends.new.hand in
    let helped = c.locate_ends.ensures.helped in
    let q = unraised_helped h k helped in
    unraised_on c.args.pair.0 c.args.pair.1 h.token.view k.token.view q c.requires.hand.of.layout c.args.raised.now
    c.requires.last

pub returns-in-Gone-clause-raised : goal.returns-in-Gone-clause-raised
returns-in-Gone-clause-raised c =
    let h = c.args.hand.now in
    let k = c.locate_ends.new.hand in
    let helped = c.locate_ends.ensures.helped in
    let q = unraised_helped h k helped in
    kept_unraised c.args.raised.now h.token.view k.token.view q

pub returns-in-Again-clause-last : goal.returns-in-Again-clause-last
returns-in-Again-clause-last c =
    let h = c.args.hand.now in
    let k = c.locate_ends.new.hand in
    let helped = c.locate_ends.ensures.helped in
    let q = unraised_helped h k helped in
    unraised_on c.args.pair.0 c.args.pair.1 h.token.view k.token.view q c.requires.hand.of.layout c.args.raised.now
    c.requires.last

pub returns-in-Again-clause-raised : goal.returns-in-Again-clause-raised
returns-in-Again-clause-raised c =
    let h = c.args.hand.now in
    let k = c.locate_ends.new.hand in
    let helped = c.locate_ends.ensures.helped in
    let q = unraised_helped h k helped in
    kept_unraised c.args.raised.now h.token.view k.token.view q

pub returns-in-Gone-clause-tried : goal.returns-in-Gone-clause-tried
returns-in-Gone-clause-tried c =
    let h = c.args.hand.now in
    let k = c.locate_ends.new.hand in
    let helped = c.locate_ends.ensures.helped in
    let q = unraised_helped h k helped in (
      helped_on true h k c.requires.nodes helped,
      (
        key_lacks c.args.pair.0 c.args.pair.1 h.token.view k.token.view c.in-Gone.gap c.in-Gone.ensures.located.1,
        refl,
      ),
    )

pub returns-in-Again-clause-pass : goal.returns-in-Again-clause-pass
returns-in-Again-clause-pass c =
    let h = c.args.hand.now in
    let k = c.locate_ends.new.hand in
    let helped = c.locate_ends.ensures.helped in
    let q = unraised_helped h k helped in
    helps_pass h.token.view k.token.view c.requires.hand.of.layout helped.helped.only c.requires.pass

pub returns-in-Again-clause-tried : goal.returns-in-Again-clause-tried
returns-in-Again-clause-tried c =
    let h = c.args.hand.now in
    let k = c.locate_ends.new.hand in
    let helped = c.locate_ends.ensures.helped in
    let q = unraised_helped h k helped in
    (helped_on true h k c.requires.nodes helped, c.in-Again.ensures.located)

pub turns-requires-clause-limit : goal.turns-requires-clause-limit
turns-requires-clause-limit c =
    let h = c.args.hand.now in
    let k = c.locate_ends.new.hand in
    let helped = c.locate_ends.ensures.helped in
    let q = unraised_helped h k helped in
    walk_limit h k k helped c.requires.nodes c.requires.limit

pub turns-requires-clause-key : goal.turns-requires-clause-key
turns-requires-clause-key c =
    let h = c.args.hand.now in
    let k = c.locate_ends.new.hand in
    let helped = c.locate_ends.ensures.helped in
    let q = unraised_helped h k helped in
    let e = c.in-Both.ensures.located.1 in
    let ends = c.in-Both.ends in
    let a = c.args.pair.0 in
    let b = c.args.pair.1 in
    to_linked a b h.token.view k.token.view ends e

pub turns-requires-clause-last : goal.turns-requires-clause-last
turns-requires-clause-last c =
    let h = c.args.hand.now in
    let k = c.locate_ends.new.hand in
    let helped = c.locate_ends.ensures.helped in
    let q = unraised_helped h k helped in
    let e = c.in-Both.ensures.located.1 in
    let ends = c.in-Both.ends in
    let a = c.args.pair.0 in
    let b = c.args.pair.1 in
    last_located a b h.token.view k.token.view ends c.locate_ends.ensures.hand.of.layout c.requires.hand.of.layout
    c.requires.hand.of.sound c.locate_ends.ensures.hand.of.sound.kept q e c.args.raised.now c.requires.last

pub turns-requires-clause-raised : goal.turns-requires-clause-raised
turns-requires-clause-raised c =
    let h = c.args.hand.now in
    let k = c.locate_ends.new.hand in
    let helped = c.locate_ends.ensures.helped in
    let q = unraised_helped h k helped in
    let e = c.in-Both.ensures.located.1 in
    let ends = c.in-Both.ends in
    let a = c.args.pair.0 in
    let b = c.args.pair.1 in
    some_located a b h.token.view k.token.view ends c.args.raised.now q e c.requires.raised

pub returns-then-lost-tries-clause-last : goal.returns-then-lost-tries-clause-last
returns-then-lost-tries-clause-last c =
    let h = c.args.hand.now in
    let k = c.locate_ends.new.hand in
    let helped = c.locate_ends.ensures.helped in
    let q = unraised_helped h k helped in
    let e = c.in-Both.ensures.located.1 in
    let ends = c.in-Both.ends in
    let a = c.args.pair.0 in
    let b = c.args.pair.1 in
    let n = c.turns.new.hand in
    let w = c.args.weight in
    let from_key = from_linked a b h.token.view k.token.view ends e in
    let m = c.turns.ensures.turned a from_key in
    let nodes = c.requires.nodes in
    let grows = turns_grow a b w h k n ends helped nodes e c.turns.result m in
    raised_on a b ends.from n.token.view c.turns.new.raised
    (linked_since k.token.view.front n.token.view.front grows ends.from a from_key) c.turns.ensures.last

pub returns-then-lost-tries-clause-raised : goal.returns-then-lost-tries-clause-raised
returns-then-lost-tries-clause-raised c =
    let h = c.args.hand.now in
    let k = c.locate_ends.new.hand in
    let helped = c.locate_ends.ensures.helped in
    let q = unraised_helped h k helped in
    let e = c.in-Both.ensures.located.1 in
    let ends = c.in-Both.ends in
    let a = c.args.pair.0 in
    let b = c.args.pair.1 in
    let n = c.turns.new.hand in
    let w = c.args.weight in
    let from_key = from_linked a b h.token.view k.token.view ends e in
    let m = c.turns.ensures.turned a from_key in
    let nodes = c.requires.nodes in
    let grows = turns_grow a b w h k n ends helped nodes e c.turns.result m in
    kept_by a b h.token.view k.token.view n.token.view ends c.args.raised.now c.turns.new.raised q grows e
    (last_located a b h.token.view k.token.view ends c.locate_ends.ensures.hand.of.layout c.requires.hand.of.layout
    c.requires.hand.of.sound c.locate_ends.ensures.hand.of.sound.kept q e c.args.raised.now c.requires.last)
    c.turns.ensures.raised

pub returns-then-lost-tries-clause-fell : goal.returns-then-lost-tries-clause-fell
returns-then-lost-tries-clause-fell c =
    let h = c.args.hand.now in
    let k = c.locate_ends.new.hand in
    let helped = c.locate_ends.ensures.helped in
    let q = unraised_helped h k helped in
    let e = c.in-Both.ensures.located.1 in
    let ends = c.in-Both.ends in
    let a = c.args.pair.0 in
    let b = c.args.pair.1 in
    let n = c.turns.new.hand in
    let w = c.args.weight in
    let from_key = from_linked a b h.token.view k.token.view ends e in
    let m = c.turns.ensures.turned a from_key in
    let nodes = c.requires.nodes in
    let grows = turns_grow a b w h k n ends helped nodes e c.turns.result m in
    let is = sym c.as_tried-tried.ensures ∙ c.in-Lost.is in
    lost_fell a b w h k n ends helped nodes e c.args.lost.now c.locate_ends.new.lost c.locate_ends.ensures.lost
    c.locate_ends.ensures.fell (lost_told a b w h k n ends helped nodes e c.turns.result is m) grows

pub returns-else-lost-tries-clause-last : goal.returns-else-lost-tries-clause-last
returns-else-lost-tries-clause-last c =
    let h = c.args.hand.now in
    let k = c.locate_ends.new.hand in
    let helped = c.locate_ends.ensures.helped in
    let q = unraised_helped h k helped in
    let e = c.in-Both.ensures.located.1 in
    let ends = c.in-Both.ends in
    let a = c.args.pair.0 in
    let b = c.args.pair.1 in
    let n = c.turns.new.hand in
    let w = c.args.weight in
    let from_key = from_linked a b h.token.view k.token.view ends e in
    let m = c.turns.ensures.turned a from_key in
    let nodes = c.requires.nodes in
    let grows = turns_grow a b w h k n ends helped nodes e c.turns.result m in
    raised_on a b ends.from n.token.view c.turns.new.raised
    (linked_since k.token.view.front n.token.view.front grows ends.from a from_key) c.turns.ensures.last

pub returns-else-lost-tries-clause-raised : goal.returns-else-lost-tries-clause-raised
returns-else-lost-tries-clause-raised c =
    let h = c.args.hand.now in
    let k = c.locate_ends.new.hand in
    let helped = c.locate_ends.ensures.helped in
    let q = unraised_helped h k helped in
    let e = c.in-Both.ensures.located.1 in
    let ends = c.in-Both.ends in
    let a = c.args.pair.0 in
    let b = c.args.pair.1 in
    let n = c.turns.new.hand in
    let w = c.args.weight in
    let from_key = from_linked a b h.token.view k.token.view ends e in
    let m = c.turns.ensures.turned a from_key in
    let nodes = c.requires.nodes in
    let grows = turns_grow a b w h k n ends helped nodes e c.turns.result m in
    kept_by a b h.token.view k.token.view n.token.view ends c.args.raised.now c.turns.new.raised q grows e
    (last_located a b h.token.view k.token.view ends c.locate_ends.ensures.hand.of.layout c.requires.hand.of.layout
    c.requires.hand.of.sound c.locate_ends.ensures.hand.of.sound.kept q e c.args.raised.now c.requires.last)
    c.turns.ensures.raised

pub returns-else-lost-tries-clause-fell : goal.returns-else-lost-tries-clause-fell
returns-else-lost-tries-clause-fell c =
    let h = c.args.hand.now in
    let k = c.locate_ends.new.hand in
    let helped = c.locate_ends.ensures.helped in
    let q = unraised_helped h k helped in
    let e = c.in-Both.ensures.located.1 in
    let ends = c.in-Both.ends in
    let a = c.args.pair.0 in
    let b = c.args.pair.1 in
    let n = c.turns.new.hand in
    let w = c.args.weight in
    let from_key = from_linked a b h.token.view k.token.view ends e in
    let m = c.turns.ensures.turned a from_key in
    let nodes = c.requires.nodes in
    let grows = turns_grow a b w h k n ends helped nodes e c.turns.result m in
    let is = sym c.as_tried-tried.ensures ∙ c.in-Lost.is in
    lost_fell a b w h k n ends helped nodes e c.args.lost.now c.locate_ends.new.lost c.locate_ends.ensures.lost
    c.locate_ends.ensures.fell (lost_told a b w h k n ends helped nodes e c.turns.result is m) grows

pub returns-then-lost-tries-clause-tried : goal.returns-then-lost-tries-clause-tried
returns-then-lost-tries-clause-tried c =
    let h = c.args.hand.now in
    let k = c.locate_ends.new.hand in
    let helped = c.locate_ends.ensures.helped in
    let q = unraised_helped h k helped in
    let e = c.in-Both.ensures.located.1 in
    let ends = c.in-Both.ends in
    let a = c.args.pair.0 in
    let b = c.args.pair.1 in
    let n = c.turns.new.hand in
    let w = c.args.weight in
    let from_key = from_linked a b h.token.view k.token.view ends e in
    let m = c.turns.ensures.turned a from_key in
    let nodes = c.requires.nodes in
    let grows = turns_grow a b w h k n ends helped nodes e c.turns.result m in
    let is = sym c.as_tried-tried.ensures ∙ c.in-Lost.is in
    ((lost_told a b w h k n ends helped nodes e c.turns.result is m).0, c.if-lost-tries.true)

pub returns-else-lost-tries-clause-tried : goal.returns-else-lost-tries-clause-tried
returns-else-lost-tries-clause-tried c =
    let h = c.args.hand.now in
    let k = c.locate_ends.new.hand in
    let helped = c.locate_ends.ensures.helped in
    let q = unraised_helped h k helped in
    let e = c.in-Both.ensures.located.1 in
    let ends = c.in-Both.ends in
    let a = c.args.pair.0 in
    let b = c.args.pair.1 in
    let n = c.turns.new.hand in
    let w = c.args.weight in
    let from_key = from_linked a b h.token.view k.token.view ends e in
    let m = c.turns.ensures.turned a from_key in
    let nodes = c.requires.nodes in
    let grows = turns_grow a b w h k n ends helped nodes e c.turns.result m in
    let is = sym c.as_tried-tried.ensures ∙ c.in-Lost.is in
    subst (λ (r : EdgeAddTried). MatchEdgeAddTried r a b w (c.locate_ends.new.lost + 1) c.args.tries h n)
    (sym c.in-Lost.is) (
      (lost_told a b w h k n ends helped nodes e c.turns.result is m).0,
      still_less c.locate_ends.new.lost c.args.tries c.in-Both.ensures.located.0 c.if-lost-tries.false,
    )

pub returns-in_default : goal.returns-in_default
returns-in_default c =
    let h = c.args.hand.now in
    let k = c.locate_ends.new.hand in
    let helped = c.locate_ends.ensures.helped in
    let q = unraised_helped h k helped in
    let e = c.in-Both.ensures.located.1 in
    let ends = c.in-Both.ends in
    let a = c.args.pair.0 in
    let b = c.args.pair.1 in
    let n = c.turns.new.hand in
    let w = c.args.weight in
    let from_key = from_linked a b h.token.view k.token.view ends e in
    let m = c.turns.ensures.turned a from_key in
    let nodes = c.requires.nodes in
    let grows = turns_grow a b w h k n ends helped nodes e c.turns.result m in
    record {
      hand = c.turns.ensures.hand;
      pass = c.turns.ensures.pass;
      last = raised_on a b ends.from n.token.view c.turns.new.raised
          (linked_since k.token.view.front n.token.view.front grows ends.from a from_key) c.turns.ensures.last;
      raised = kept_by a b h.token.view k.token.view n.token.view ends c.args.raised.now c.turns.new.raised q grows e
          (last_located a b h.token.view k.token.view ends c.locate_ends.ensures.hand.of.layout
          c.requires.hand.of.layout
          c.requires.hand.of.sound c.locate_ends.ensures.hand.of.sound.kept q e c.args.raised.now c.requires.last)
          c.turns.ensures.raised;
      lost = c.locate_ends.ensures.lost;
      fell = lost_same (c.locate_ends.new.lost - c.args.lost.now) h k n helped grows c.locate_ends.ensures.fell;
      more = λ is. absurd (c.in_default.not-Lost is);
      tried = subst (λ (r : EdgeAddTried). MatchEdgeAddTried r a b w c.locate_ends.new.lost c.args.tries h n)
          (sym c.as_tried-tried.ensures)
          (tried_told a b w h k n ends helped nodes e c.turns.result c.locate_ends.new.lost c.args.tries
          (λ is. c.in_default.not-Lost (c.as_tried-tried.ensures ∙ is)) m);
    }
