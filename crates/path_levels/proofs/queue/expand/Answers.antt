use Rattle.std.proofs.Common.{◌+◌, ◌≤◌, ◌<◌, sym, ap, ◌∙◌, subst, arith}
use Rattle.scan_record.specs.declared.rows.EdgeRow.{EdgeRow}
use Rattle.scan_record.specs.declared.rows.VertexRow.{VertexRow}
use Rattle.scan_record.specs.Scan.{row_at}
use Rattle.scan_record.proofs.ScanFacts.{complete_kept}
use Rattle.path_levels.proofs.Queues.{queue_few}
use Rattle.path_levels.proofs.Expanding.{expanding_first, edge_within, target_within, edge_leads, expanding_some}
use Rattle.path_levels.proofs.Expanding.{expanding_none, expanded_keys, expanded_queue}
use Rattle.path_levels.proofs.queue.expand.Goals as goal
use Rattle.path_levels.proofs.queue.expand.Goals.{in-Some, in_default}

pub work-requires-clause-row : goal.work-requires-clause-row
work-requires-clause-row c = omega (arith, queue_few c.args.scan.now c.args.place c.requires.queue)

pub loop-edge-init : goal.loop-edge-init
loop-edge-init c =
    let row = c.vertex-row.ensures ∙ ap (row_at c.args.scan.now) c.work.ensures in
    expanding_first c.args.scan.now c.args.place c.vertex-row.result.first c.requires.queue c.requires.place
    (ap (λ (r : VertexRow). r.first) row)

pub edge-requires : goal.edge-requires
edge-requires c =
    let row = c.vertex-row.ensures ∙ ap (row_at c.args.scan.now) c.work.ensures in
    edge_within c.args.scan.now c.edges.ensures.valid c.requires.complete c.args.place c.requires.queue c.requires.place
    c.loop-edge.scan c.loop-edge.edge c.loop-edge.invariant
    (subst (λ (r : VertexRow). r.first ≤ c.loop-edge.edge) row c.loop-edge.auto.edge)
    (subst (λ (r : VertexRow). c.loop-edge.edge < r.first + r.count) row c.loop-edge-test.true)

pub meet-requires-clause-complete : goal.meet-requires-clause-complete
meet-requires-clause-complete c = complete_kept c.args.scan.now c.loop-edge.scan c.loop-edge.invariant.kept.rows
    c.requires.complete

pub meet-requires-clause-row : goal.meet-requires-clause-row
meet-requires-clause-row c =
    let row = c.vertex-row.ensures ∙ ap (row_at c.args.scan.now) c.work.ensures in
    target_within c.args.scan.now c.edges.ensures.valid c.requires.complete c.args.place c.requires.queue
    c.requires.place c.loop-edge.scan c.loop-edge.edge c.loop-edge.invariant
    (subst (λ (r : VertexRow). r.first ≤ c.loop-edge.edge) row c.loop-edge.auto.edge)
    (subst (λ (r : VertexRow). c.loop-edge.edge < r.first + r.count) row c.loop-edge-test.true)
    c.in-Some.target (ap (λ (e : EdgeRow). e.target) (sym c.edge.ensures) ∙ c.in-Some.is)

pub meet-requires-clause-edge : goal.meet-requires-clause-edge
meet-requires-clause-edge c =
    let row = c.vertex-row.ensures ∙ ap (row_at c.args.scan.now) c.work.ensures in
    edge_leads c.args.scan.now c.edges.ensures.valid c.requires.complete c.args.place c.requires.queue c.requires.place
    c.loop-edge.scan c.loop-edge.edge c.loop-edge.invariant
    (subst (λ (r : VertexRow). r.first ≤ c.loop-edge.edge) row c.loop-edge.auto.edge)
    (subst (λ (r : VertexRow). c.loop-edge.edge < r.first + r.count) row c.loop-edge-test.true)
    c.in-Some.target (ap (λ (e : EdgeRow). e.target) (sym c.edge.ensures) ∙ c.in-Some.is)

pub loop-edge-preserved : goal.loop-edge-preserved
loop-edge-preserved c =
    let old = c.args.scan.now in
    let row = c.vertex-row.ensures ∙ ap (row_at old) c.work.ensures in
    let low = subst (λ (r : VertexRow). r.first ≤ c.loop-edge.edge) row c.loop-edge.auto.edge in
    let high = subst (λ (r : VertexRow). c.loop-edge.edge < r.first + r.count) row c.loop-edge-test.true in
    elim c.match-edge.branch [
      | in-Some w ↦ rw w.scan-is (expanding_some old c.edges.ensures.valid c.requires.complete c.args.place
          c.requires.queue c.requires.place c.loop-edge.scan c.loop-edge.edge c.loop-edge.invariant low high
          w.in-Some.target (ap (λ (e : EdgeRow). e.target) (sym c.edge.ensures) ∙ w.in-Some.is) w.meet.new.scan
          w.meet.ensures.keys w.meet.ensures.queue w.meet.ensures.ends w.meet.ensures.kept)
      | in_default w ↦ rw w.scan-is (expanding_none old c.edges.ensures.valid c.requires.complete c.args.place
          c.requires.queue c.requires.place c.loop-edge.scan c.loop-edge.edge c.loop-edge.invariant low high
          (ap (λ (e : EdgeRow). e.target) (sym c.edge.ensures) ∙ w.in_default.is))
    ]

pub returns-clause-keys : goal.returns-clause-keys
returns-clause-keys c =
    let row = c.vertex-row.ensures ∙ ap (row_at c.args.scan.now) c.work.ensures in
    expanded_keys c.args.scan.now c.edges.ensures.valid c.requires.complete c.args.place c.requires.queue
    c.requires.place c.loop-edge.scan c.loop-edge.edge c.loop-edge.invariant
    (subst (λ (r : VertexRow). r.first + r.count ≤ c.loop-edge.edge) row c.loop-edge-test.false)

pub returns-clause-queue : goal.returns-clause-queue
returns-clause-queue c =
    let row = c.vertex-row.ensures ∙ ap (row_at c.args.scan.now) c.work.ensures in
    expanded_queue c.args.scan.now c.edges.ensures.valid c.requires.complete c.args.place c.requires.queue
    c.requires.place c.loop-edge.scan c.loop-edge.edge c.loop-edge.invariant
    (subst (λ (r : VertexRow). r.first + r.count ≤ c.loop-edge.edge) row c.loop-edge-test.false)
