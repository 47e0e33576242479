use Rattle.std.proofs.Common.{arith, ap, ◌∙◌, ◌-◌}
use Rattle.packed_link.specs.Layout.{Sizes, bucket_at}
use Rattle.shared_graph.proofs.WaysOfTable.{bucket_ends, bucket_goes, bucket_over, bucket_starts}
use Rattle.shared_graph.proofs.reading.read_bucket.Goals as goal

pub loop-rest-init : goal.loop-rest-init
loop-rest-init c = record {
  reading = c.look-word.ensures.reading;
  of_table = c.requires.of_table;
  room = omega arith;
  told = bucket_starts c.args.table.now c.args.begun.now.value c.args.token.now c.look-word.new.token c.args.bucket
      c.bucket_at.result c.look-word.result c.args.left c.args.vertices.now.items c.requires.bucket
      (c.bucket_at.ensures.place ∙ ap (λ (z : Sizes). bucket_at z c.args.bucket) c.layout-layout.ensures.sizes)
      c.look-word.ensures.reading c.look-word.ensures.told;
}

pub returns-then-index-nodes-clause-told : goal.returns-then-index-nodes-clause-told
returns-then-index-nodes-clause-told c = bucket_ends c.args.table.now c.args.begun.now.value c.args.token.now
    c.loop-rest.token c.args.bucket c.loop-rest.word c.args.left c.loop-rest.rest c.index-index.result
    c.args.vertices.now.items c.loop-rest.vertices.items c.requires.bucket
    (omega (
      arith,
      c.nodes.ensures.nodes,
      ap (λ (z : Sizes). z.nodes) c.layout-layout.ensures.sizes,
      c.if-index-nodes.true,
    ))
    c.index-index.ensures.index c.loop-rest.invariant.reading c.loop-rest.invariant.told

pub loop-rest-preserved : goal.loop-rest-preserved
loop-rest-preserved c = record {
  reading = c.in_ok-word.ensures.reading;
  of_table = c.in_ok-word.ensures.of_table;
  room = omega (arith, c.in_ok-word.ensures.room, c.loop-rest.invariant.room, c.loop-rest-test.true);
  told = bucket_goes c.args.table.now c.args.begun.now.value c.args.token.now c.loop-rest.token c.read_vertex.new.token
      c.args.bucket c.loop-rest.word c.in_ok-word.word c.args.left c.loop-rest.rest (c.loop-rest.rest - 1)
      c.index-index.result c.args.vertices.now.items c.loop-rest.vertices.items c.read_vertex.new.vertices.items
      (omega (
        arith,
        c.nodes.ensures.nodes,
        ap (λ (z : Sizes). z.nodes) c.layout-layout.ensures.sizes,
        c.if-index-nodes.false,
      ))
      c.index-index.ensures.index (omega (arith, c.loop-rest-test.true)) c.in_ok-word.ensures.reading
      c.loop-rest.invariant.told c.in_ok-word.ensures.told;
}

pub returns-clause-told : goal.returns-clause-told
returns-clause-told c = bucket_over c.args.table.now c.args.begun.now.value c.args.token.now c.loop-rest.token
    c.args.bucket c.loop-rest.word c.args.left c.loop-rest.rest c.args.vertices.now.items c.loop-rest.vertices.items
    (omega (arith, c.loop-rest-test.false)) c.loop-rest.invariant.told
