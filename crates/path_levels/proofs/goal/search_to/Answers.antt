use Rattle.std.proofs.Common.{ℕ, List, Option, Some, None, length, ap, subst, arith}
use Rattle.std.specs.Prelude.{IfNone}
use Rattle.graph_kinds.specs.Graph.{IsGraph}
use Rattle.scan_record.specs.declared.rows.VertexRow.{VertexRow}
use Rattle.scan_record.specs.Asked.{root_of}
use Rattle.scan_record.specs.Scan.{ScanValue}
use Rattle.scan_record.specs.ScanGraph.{graph_of_scan}
use Rattle.scan_record.proofs.IsGraphOfScan.{graph_law}
use Rattle.scan_record.proofs.ScanFacts.{row_key, graph_kept, complete_kept}
use Rattle.path_levels.proofs.Queues.{queue_few}
use Rattle.path_levels.proofs.Searching.{queue_ended, search_first, search_next, search_end, search_few, all_met}
use Rattle.path_levels.proofs.Searching.{at_front_of_all}
use Rattle.path_levels.proofs.goal.search_to.Goals as goal

pub loop-from-init : goal.loop-from-init
loop-from-init c = search_first c.args.scan.now c.begin.new.scan c.queue_len-end.result c.begin.ensures.kept
    c.begin.ensures.queue c.begin.ensures.keys c.begin.ensures.ends c.queue_len-end.ensures.count

pub put_end-requires : goal.put_end-requires
put_end-requires c =
    let now = c.loop-from.invariant in
    let began = c.begin.ensures.kept in
    let few = queue_few c.loop-from.scan c.loop-from.from now.queue in
    let rows = ap (λ (r : List VertexRow). length r) now.kept.rows.rows in
    let first = ap (λ (r : List VertexRow). length r) began.rows.rows in
    omega (
      arith,
      few,
      rows,
      first,
      now.kept.rows.nodes,
      began.rows.nodes,
      c.queue_len-end.ensures.valid.rows_fit,
      now.long,
      now.short,
    )

pub expand_level-requires-clause-queue : goal.expand_level-requires-clause-queue
expand_level-requires-clause-queue c = queue_ended c.loop-from.scan c.put_end.new.self _ c.loop-from.from
    c.put_end.ensures c.loop-from.invariant.queue

pub queue_len-end-requires-in-loop-from : goal.queue_len-end-requires-in-loop-from
queue_len-end-requires-in-loop-from c = queue_few c.expand_level.new.scan _ c.expand_level.ensures.queue

pub loop-from-smaller : goal.loop-from-smaller
loop-from-smaller c =
    let few = queue_few c.loop-from.scan c.loop-from.from c.loop-from.invariant.queue in
    let rows = ap (λ (r : List VertexRow). length r) c.expand_level.ensures.kept.rows.rows in
    let ended = ap (λ (t : ScanValue). length t.rows) c.put_end.ensures in
    omega (arith, few, rows, ended, c.loop-from.invariant.long)

pub loop-from-preserved : goal.loop-from-preserved
loop-from-preserved c =
    let old = c.args.scan.now in
    let began = c.begin.ensures.kept in
    let graph = graph_law c.begin.new.scan c.queue_len-end.ensures.valid
    (complete_kept old c.begin.new.scan began.rows c.requires) in
    let is = subst IsGraph (graph_kept old c.begin.new.scan began.rows) graph in
    search_next old c.loop-from.scan c.loop-from.from c.loop-from.end is
    (row_key old 0 c.requires.has_root) c.loop-from.invariant c.loop-from-test.true
    c.put_end.new.self c.expand_level.new.scan c.queue_len-end-in-loop-from.result c.put_end.ensures
    c.expand_level.ensures.keys c.expand_level.ensures.queue c.expand_level.ensures.ends c.expand_level.ensures.kept
    c.queue_len-end-in-loop-from.ensures.count

if_none : (r : Option ℕ) (P : Type 0) → P → IfNone r P
if_none None P is = is
if_none (Some x) P is = tt

pub place_of-requires-clause-few : goal.place_of-requires-clause-few
place_of-requires-clause-few c = queue_few c.loop-from.scan c.loop-from.from c.loop-from.invariant.queue

pub returns-in-Some-clause-front : goal.returns-in-Some-clause-front
returns-in-Some-clause-front c =
    let old = c.args.scan.now in
    let now = c.loop-from.invariant in
    let began = c.begin.ensures.kept in
    let graph = graph_law c.begin.new.scan c.queue_len-end.ensures.valid
    (complete_kept old c.begin.new.scan began.rows c.requires) in
    at_front_of_all (graph_of_scan old) (root_of old) (subst IsGraph (graph_kept old c.begin.new.scan began.rows) graph)
    (row_key old 0 c.requires.has_root) c.loop-from.scan.keys c.loop-from.scan.ends c.loop-from.from
    now.level (omega (arith, now.long, c.loop-from-test.true))

pub returns-in-Some-clause-few : goal.returns-in-Some-clause-few
returns-in-Some-clause-few c = search_few c.args.scan.now c.loop-from.scan c.loop-from.from c.loop-from.end
    c.loop-from.invariant

pub returns-in-Some-clause-graph : goal.returns-in-Some-clause-graph
returns-in-Some-clause-graph c =
    let old = c.args.scan.now in
    let began = c.begin.ensures.kept in
    let graph = graph_law c.begin.new.scan c.queue_len-end.ensures.valid
    (complete_kept old c.begin.new.scan began.rows c.requires) in
    subst IsGraph (graph_kept old c.begin.new.scan began.rows) graph

pub place_of-requires-2-clause-few : goal.place_of-requires-2-clause-few
place_of-requires-2-clause-few c = queue_few c.loop-from.scan c.loop-from.from c.loop-from.invariant.queue

pub returns-clause-all : goal.returns-clause-all
returns-clause-all c = if_none c.place_of-2.result _ (search_end c.args.scan.now c.loop-from.scan c.loop-from.from
    c.loop-from.end c.loop-from.invariant c.loop-from-test.false).0

pub returns-clause-front : goal.returns-clause-front
returns-clause-front c = all_met c.args.scan.now c.loop-from.scan c.loop-from.from c.loop-from.end c.loop-from.invariant
    c.loop-from-test.false

pub returns-clause-few : goal.returns-clause-few
returns-clause-few c = search_few c.args.scan.now c.loop-from.scan c.loop-from.from c.loop-from.end
    c.loop-from.invariant

pub returns-clause-graph : goal.returns-clause-graph
returns-clause-graph c =
    let old = c.args.scan.now in
    let began = c.begin.ensures.kept in
    let graph = graph_law c.begin.new.scan c.queue_len-end.ensures.valid
    (complete_kept old c.begin.new.scan began.rows c.requires) in
    subst IsGraph (graph_kept old c.begin.new.scan began.rows) graph
