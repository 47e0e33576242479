use Rattle.std.proofs.Common.{◌≡◌, ◌+◌, ◌∷◌, [], length, length-append, ap, ◌∙◌, arith}
use Rattle.core_stretches.proofs.MakesTell.{makes_later}
use Rattle.core_stretches.specs.Makes.{marking}
use Rattle.core_rule.specs.OwnEvents.{freeze_edge_event}
use Rattle.graph_updates.proofs.BurialSteps.{buries_first, buries_next, buried, ready_next, ready_last}
use Rattle.graph_updates.proofs.burying.bury.Goals as goal

pub loop-edge-init : goal.loop-edge-init
loop-edge-init c = record {
  of = c.freeze_head-frozen.ensures.table;
  buries = buries_first c.args.token.now.view c.freeze_head-frozen.new.token.view c.args.spent c.args.limbo.now
      c.freeze_head-frozen.result c.requires.table.layout c.requires.vertex c.freeze_head-frozen.ensures.closed;
}

pub freeze_next-requires-clause-number : goal.freeze_next-requires-clause-number
freeze_next-requires-clause-number c =
    let v = c.args.token.now.view in
    let x = c.args.spent in
    let old = c.args.limbo.now in
    let now = c.loop-edge.limbo in
    let t = c.loop-edge.token.view in
    let b = c.loop-edge.invariant.buries in
    let zt = c.loop-edge.invariant.of.layout in
    (makes_later v t b.own b.is.makes).numbered ∙ c.requires.number

pub retire-requires-clause-number : goal.retire-requires-clause-number
retire-requires-clause-number c =
    let v = c.args.token.now.view in
    let x = c.args.spent in
    let old = c.args.limbo.now in
    let now = c.loop-edge.limbo in
    let t = c.loop-edge.token.view in
    let b = c.loop-edge.invariant.buries in
    let zt = c.loop-edge.invariant.of.layout in
    let m = c.freeze_next.new.token.view in
    let d = c.in-Some.ensures.frozen in
    let zm = c.in-Some.ensures.table.layout in
    let ready = ready_next v t m x c.in-Some.edge old now c.loop-edge.frozen c.freeze_next.new.frozen
    c.requires.table.layout zt zm c.requires.vertex b d in
    (makes_later t m (marking (freeze_edge_event t c.in-Some.edge) d.found) d.makes).numbered ∙
    ((makes_later v t b.own b.is.makes).numbered ∙ c.requires.number)

pub retire-requires-clause-room : goal.retire-requires-clause-room
retire-requires-clause-room c =
    let v = c.args.token.now.view in
    let x = c.args.spent in
    let old = c.args.limbo.now in
    let now = c.loop-edge.limbo in
    let t = c.loop-edge.token.view in
    let b = c.loop-edge.invariant.buries in
    let zt = c.loop-edge.invariant.of.layout in
    let m = c.freeze_next.new.token.view in
    let d = c.in-Some.ensures.frozen in
    let zm = c.in-Some.ensures.table.layout in
    let ready = ready_next v t m x c.in-Some.edge old now c.loop-edge.frozen c.freeze_next.new.frozen
    c.requires.table.layout zt zm c.requires.vertex b d in
    ready.room

pub loop-edge-smaller : goal.loop-edge-smaller
loop-edge-smaller c =
    let v = c.args.token.now.view in
    let x = c.args.spent in
    let old = c.args.limbo.now in
    let now = c.loop-edge.limbo in
    let t = c.loop-edge.token.view in
    let b = c.loop-edge.invariant.buries in
    let zt = c.loop-edge.invariant.of.layout in
    let m = c.freeze_next.new.token.view in
    let d = c.in-Some.ensures.frozen in
    let zm = c.in-Some.ensures.table.layout in
    let ready = ready_next v t m x c.in-Some.edge old now c.loop-edge.frozen c.freeze_next.new.frozen
    c.requires.table.layout zt zm c.requires.vertex b d in
    let room = ready.room in
    let r = c.retire.ensures.retired in
    let nodes : length c.retire.new.self.nodes ≡ length now.nodes + 1 = ap length r.nodes ∙ length-append now.nodes
    (record { life = c.in-Some.edge; stamp = _ } ∷ []) in
    let same = r.room in
    omega (arith, room, nodes, same)

pub loop-edge-preserved : goal.loop-edge-preserved
loop-edge-preserved c =
    let v = c.args.token.now.view in
    let x = c.args.spent in
    let old = c.args.limbo.now in
    let now = c.loop-edge.limbo in
    let t = c.loop-edge.token.view in
    let b = c.loop-edge.invariant.buries in
    let zt = c.loop-edge.invariant.of.layout in
    let m = c.freeze_next.new.token.view in
    let d = c.in-Some.ensures.frozen in
    let zm = c.in-Some.ensures.table.layout in
    let ready = ready_next v t m x c.in-Some.edge old now c.loop-edge.frozen c.freeze_next.new.frozen
    c.requires.table.layout zt zm c.requires.vertex b d in
    record {
      of = c.retire.ensures.table;
      buries = buries_next v t m c.retire.new.token.view x c.in-Some.edge old now c.retire.new.self c.loop-edge.frozen
          c.freeze_next.new.frozen c.requires.table.layout zt zm c.retire.ensures.table.layout c.requires.vertex b d
          c.retire.ensures.makes c.retire.ensures.retired;
    }

pub retire-requires-2-clause-number : goal.retire-requires-2-clause-number
retire-requires-2-clause-number c =
    let v = c.args.token.now.view in
    let x = c.args.spent in
    let old = c.args.limbo.now in
    let now = c.loop-edge.limbo in
    let t = c.loop-edge.token.view in
    let b = c.loop-edge.invariant.buries in
    let zt = c.loop-edge.invariant.of.layout in
    let m = c.freeze_next.new.token.view in
    let d = c.in_default.ensures.frozen in
    let zm = c.in_default.ensures.table.layout in
    let last = ready_last v t m x old now c.loop-edge.frozen c.freeze_next.new.frozen c.requires.table.layout zt zm
    c.requires.vertex b d in
    (makes_later t m [] d.makes).numbered ∙ ((makes_later v t b.own b.is.makes).numbered ∙ c.requires.number)

pub retire-requires-2-clause-room : goal.retire-requires-2-clause-room
retire-requires-2-clause-room c =
    let v = c.args.token.now.view in
    let x = c.args.spent in
    let old = c.args.limbo.now in
    let now = c.loop-edge.limbo in
    let t = c.loop-edge.token.view in
    let b = c.loop-edge.invariant.buries in
    let zt = c.loop-edge.invariant.of.layout in
    let m = c.freeze_next.new.token.view in
    let d = c.in_default.ensures.frozen in
    let zm = c.in_default.ensures.table.layout in
    let last = ready_last v t m x old now c.loop-edge.frozen c.freeze_next.new.frozen c.requires.table.layout zt zm
    c.requires.vertex b d in
    last.room

pub returns-clause-buried : goal.returns-clause-buried
returns-clause-buried c =
    let v = c.args.token.now.view in
    let x = c.args.spent in
    let old = c.args.limbo.now in
    let now = c.loop-edge.limbo in
    let t = c.loop-edge.token.view in
    let b = c.loop-edge.invariant.buries in
    let zt = c.loop-edge.invariant.of.layout in
    let m = c.freeze_next.new.token.view in
    let d = c.in_default.ensures.frozen in
    let zm = c.in_default.ensures.table.layout in
    let last = ready_last v t m x old now c.loop-edge.frozen c.freeze_next.new.frozen c.requires.table.layout zt zm
    c.requires.vertex b d in
    buried v t m c.retire-2.new.token.view x old now c.retire-2.new.self c.loop-edge.frozen c.freeze_next.new.frozen
    c.requires.table.layout zt zm c.retire-2.ensures.table.layout c.requires.vertex b d c.retire-2.ensures.makes
    c.retire-2.ensures.retired
