use Rattle.std.proofs.Common.{◌≡◌, [], arith, rules}
use Rattle.plain_graph.proofs.Cuts.{cut_begins, cut_more, cut_ends}
use Rattle.plain_graph.proofs.maps.remove_edges.Goals as goal

pub loop-from-init : goal.loop-from-init
loop-from-init c =
    let all : c.into_iter-from-iterator.result ≡ c.args.named.now.entries = search rules in
    rw all (record {
      cut = cut_begins c.args.vertices.now c.args.key c.args.named.now.entries c.requires.rises c.requires.all;
      few = omega arith;
    })

pub loop-from-preserved : goal.loop-from-preserved
loop-from-preserved c =
    let e = c.remove_counted-count.ensures in
    let before = rw c.in-Some.ensures.steps at c.loop-from.invariant in
    record {
      cut = cut_more c.args.vertices.now c.loop-from.vertices c.remove_counted-count.new.vertices c.args.key
          (c.in-Some.from.now, c.in-Some.field-0-1.now) c.next.new.self c.loop-from.count before.cut e.rises e.keys
          e.weights c.remove_counted-count.result e.count;
      few = omega (arith, before.few, e.one);
    }

pub overflow_add-count : goal.overflow_add-count
overflow_add-count c =
    let before = rw c.in-Some.ensures.steps at c.loop-from.invariant in
    omega (arith, before.few, c.remove_counted-count.ensures.one, c.len.ensures.len, c.len.ensures.small)

pub returns-clause-weights : goal.returns-clause-weights
returns-clause-weights c =
    let none : c.loop-from.from-iterator ≡ [] = search rules in
    let cut = rw none at c.loop-from.invariant in
    cut_ends c.args.vertices.now c.loop-from.vertices c.args.key c.loop-from.count cut.cut
