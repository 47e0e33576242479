use Rattle.std.proofs.Common.{List, length, ap, subst, arith}
use Rattle.graph_kinds.specs.Graph.{IsGraph}
use Rattle.scan_record.specs.declared.rows.VertexRow.{VertexRow}
use Rattle.scan_record.specs.Scan.{ScanValue}
use Rattle.scan_record.proofs.IsGraphOfScan.{graph_law}
use Rattle.scan_record.proofs.ScanFacts.{row_key, graph_kept, complete_kept}
use Rattle.path_levels.proofs.Queues.{queue_few}
use Rattle.path_levels.proofs.Searching.{queue_ended, search_first, search_next, search_end, search_few}
use Rattle.path_levels.proofs.search.search.Goals as goal

pub loop-from-init : goal.loop-from-init
loop-from-init c = search_first c.args.scan.now c.begin.new.scan c.queue_len-end.result c.begin.ensures.kept
    c.begin.ensures.queue c.begin.ensures.keys c.begin.ensures.ends c.queue_len-end.ensures.count

pub put_end-requires : goal.put_end-requires
put_end-requires c =
    let now = c.loop-from.invariant in
    let began = c.begin.ensures.kept in
    let few = queue_few c.loop-from.scan c.loop-from.from now.queue in
    let rows = ap (λ (r : List VertexRow). length r) now.kept.rows.rows in
    let first = ap (λ (r : List VertexRow). length r) began.rows.rows in
    omega (
      arith,
      few,
      rows,
      first,
      now.kept.rows.nodes,
      began.rows.nodes,
      c.queue_len-end.ensures.valid.rows_fit,
      now.long,
      now.short,
    )

pub expand_level-requires-clause-queue : goal.expand_level-requires-clause-queue
expand_level-requires-clause-queue c = queue_ended c.loop-from.scan c.put_end.new.self _ c.loop-from.from
    c.put_end.ensures c.loop-from.invariant.queue

pub queue_len-end-requires-in-loop-from : goal.queue_len-end-requires-in-loop-from
queue_len-end-requires-in-loop-from c = queue_few c.expand_level.new.scan _ c.expand_level.ensures.queue

pub loop-from-smaller : goal.loop-from-smaller
loop-from-smaller c =
    let few = queue_few c.loop-from.scan c.loop-from.from c.loop-from.invariant.queue in
    let rows = ap (λ (r : List VertexRow). length r) c.expand_level.ensures.kept.rows.rows in
    let ended = ap (λ (t : ScanValue). length t.rows) c.put_end.ensures in
    omega (arith, few, rows, ended, c.loop-from.invariant.long)

pub loop-from-preserved : goal.loop-from-preserved
loop-from-preserved c =
    let old = c.args.scan.now in
    let began = c.begin.ensures.kept in
    let graph = graph_law c.begin.new.scan c.queue_len-end.ensures.valid
    (complete_kept old c.begin.new.scan began.rows c.requires) in
    let is = subst IsGraph (graph_kept old c.begin.new.scan began.rows) graph in
    search_next old c.loop-from.scan c.loop-from.from c.loop-from.end is
    (row_key old 0 c.requires.has_root) c.loop-from.invariant c.loop-from-test.true
    c.put_end.new.self c.expand_level.new.scan c.queue_len-end-in-loop-from.result c.put_end.ensures
    c.expand_level.ensures.keys c.expand_level.ensures.queue c.expand_level.ensures.ends c.expand_level.ensures.kept
    c.queue_len-end-in-loop-from.ensures.count

pub returns-clause-graph : goal.returns-clause-graph
returns-clause-graph c =
    let old = c.args.scan.now in
    let began = c.begin.ensures.kept in
    let graph = graph_law c.begin.new.scan c.queue_len-end.ensures.valid
    (complete_kept old c.begin.new.scan began.rows c.requires) in
    subst IsGraph (graph_kept old c.begin.new.scan began.rows) graph

pub returns-clause-keys : goal.returns-clause-keys
returns-clause-keys c = (search_end c.args.scan.now c.loop-from.scan c.loop-from.from c.loop-from.end
    c.loop-from.invariant c.loop-from-test.false).0

pub returns-clause-ends : goal.returns-clause-ends
returns-clause-ends c = (search_end c.args.scan.now c.loop-from.scan c.loop-from.from c.loop-from.end
    c.loop-from.invariant c.loop-from-test.false).1

pub returns-clause-few : goal.returns-clause-few
returns-clause-few c = search_few c.args.scan.now c.loop-from.scan c.loop-from.from c.loop-from.end
    c.loop-from.invariant

pub returns-clause-few_levels : goal.returns-clause-few_levels
returns-clause-few_levels c =
    let now = c.loop-from.invariant in
    omega (
      arith,
      search_few c.args.scan.now c.loop-from.scan c.loop-from.from c.loop-from.end now,
      now.short,
      now.behind,
      now.long,
    )
