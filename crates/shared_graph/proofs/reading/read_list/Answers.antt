use Rattle.std.proofs.Common.{arith, ap, ◌∙◌, ◌-◌}
use Rattle.packed_link.specs.Layout.{Sizes, second_at}
use Rattle.shared_graph.proofs.WaysOfTable.{list_ends, list_goes, list_over, list_starts}
use Rattle.shared_graph.proofs.reading.read_list.Goals as goal

pub loop-rest-init : goal.loop-rest-init
loop-rest-init c = record {
  reading = c.look-word.ensures.reading;
  room = omega arith;
  told = list_starts c.args.table.now c.args.begun.now.value c.args.token.now c.look-word.new.token c.args.vertex.now
      c.second_at.result c.look-word.result c.args.left c.args.edges.now.items c.requires.vertex
      (c.second_at.ensures.place ∙ ap (λ (z : Sizes). second_at z c.args.vertex.now.index)
      c.layout-layout.ensures.sizes)
      c.look-word.ensures.reading c.look-word.ensures.told;
}

pub returns-then-index-nodes-clause-told : goal.returns-then-index-nodes-clause-told
returns-then-index-nodes-clause-told c = list_ends c.args.table.now c.args.begun.now.value c.args.token.now
    c.loop-rest.token c.args.vertex.now c.loop-rest.word c.args.left c.loop-rest.rest c.index-index.result
    c.args.edges.now.items c.loop-rest.edges.items
    (omega (
      arith,
      c.nodes.ensures.nodes,
      ap (λ (z : Sizes). z.nodes) c.layout-layout.ensures.sizes,
      c.if-index-nodes.true,
    ))
    c.index-index.ensures.index c.loop-rest.invariant.reading c.loop-rest.invariant.told

pub loop-rest-preserved : goal.loop-rest-preserved
loop-rest-preserved c = record {
  reading = c.in_ok-word.ensures.reading;
  room = omega (arith, c.in_ok-word.ensures.room, c.loop-rest.invariant.room, c.loop-rest-test.true);
  told = list_goes c.args.table.now c.args.begun.now.value c.args.token.now c.loop-rest.token c.read_edge.new.token
      c.args.vertex.now c.loop-rest.word c.in_ok-word.word c.args.left c.loop-rest.rest (c.loop-rest.rest - 1)
      c.index-index.result c.args.edges.now.items c.loop-rest.edges.items c.read_edge.new.edges.items
      (omega (
        arith,
        c.nodes.ensures.nodes,
        ap (λ (z : Sizes). z.nodes) c.layout-layout.ensures.sizes,
        c.if-index-nodes.false,
      ))
      c.index-index.ensures.index (omega (arith, c.loop-rest-test.true)) c.in_ok-word.ensures.reading
      c.loop-rest.invariant.told c.in_ok-word.ensures.told;
}

pub returns-clause-told : goal.returns-clause-told
returns-clause-told c = list_over c.args.table.now c.args.begun.now.value c.args.token.now c.loop-rest.token
    c.args.vertex.now c.loop-rest.word c.args.left c.loop-rest.rest c.args.edges.now.items c.loop-rest.edges.items
    (omega (arith, c.loop-rest-test.false)) c.loop-rest.invariant.told
