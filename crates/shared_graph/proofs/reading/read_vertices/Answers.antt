use Rattle.std.proofs.Common.{arith, ap}
use Rattle.packed_link.specs.Layout.{Sizes}
use Rattle.shared_graph.proofs.WaysOfTable.{all_buckets, next_bucket}
use Rattle.shared_graph.proofs.reading.read_vertices.Goals as goal

pub loop-bucket-preserved : goal.loop-bucket-preserved
loop-bucket-preserved c = record {
  reading = c.in_ok-rest.ensures.reading;
  of_table = c.in_ok-rest.ensures.of_table;
  room = omega (arith, c.in_ok-rest.ensures.room, c.loop-bucket.invariant.room);
  told = next_bucket c.args.table.now c.args.begun.now.value c.args.token.now c.loop-bucket.token
      c.read_bucket.new.token c.loop-bucket.bucket c.args.left c.loop-bucket.rest c.in_ok-rest.rest
      c.loop-bucket.vertices.items c.read_bucket.new.vertices.items c.loop-bucket.invariant.told
      c.in_ok-rest.ensures.told;
}

pub returns-clause-told : goal.returns-clause-told
returns-clause-told c = all_buckets c.args.table.now c.args.begun.now.value c.args.token.now c.loop-bucket.token
    c.loop-bucket.bucket c.args.left c.loop-bucket.rest c.loop-bucket.vertices.items
    (omega (
      arith,
      c.loop-bucket-test.false,
      c.loop-bucket.auto.bucket-end,
      c.buckets-buckets.ensures.buckets,
      ap (λ (z : Sizes). z.buckets) c.layout.ensures.sizes,
    ))
    c.loop-bucket.invariant.told
