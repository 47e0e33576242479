use Rattle.std.proofs.Common.{◌+◌, ◌≤◌, ◌<◌, sym, ap, ◌∙◌, subst}
use Rattle.scan_record.specs.declared.rows.EdgeRow.{EdgeRow}
use Rattle.scan_record.specs.declared.rows.VertexRow.{VertexRow}
use Rattle.path_costs.specs.Search.{HasPair, FollowsPair}
use Rattle.path_costs.proofs.Expanding.{target_within, target_pair, expanding_some, expanding_none, expanded}
use Rattle.path_costs.proofs.search.expand.Goals as goal
use Rattle.path_costs.proofs.search.expand.Goals.{in-Some, in_default}

pub follow-waiting-requires-clause-row : goal.follow-waiting-requires-clause-row
follow-waiting-requires-clause-row c =
    let low = subst (λ (r : VertexRow). r.first ≤ c.loop-place.place) c.vertex-row.ensures c.loop-place.auto.place in
    let high = subst (λ (r : VertexRow). c.loop-place.place < r.first + r.count) c.vertex-row.ensures
    c.loop-place-test.true in
    target_within c.args.scan.now c.edges.ensures.valid c.requires.complete c.args.from c.requires.open.row
    c.loop-place.scan c.loop-place.place c.loop-place.invariant.expanding low high
    c.in-Some.target (ap (λ (e : EdgeRow). e.target) (sym c.edge-edge.ensures) ∙ c.in-Some.is)

pub follow-waiting-requires-clause-pair : goal.follow-waiting-requires-clause-pair
follow-waiting-requires-clause-pair c =
    let low = subst (λ (r : VertexRow). r.first ≤ c.loop-place.place) c.vertex-row.ensures c.loop-place.auto.place in
    let high = subst (λ (r : VertexRow). c.loop-place.place < r.first + r.count) c.vertex-row.ensures
    c.loop-place-test.true in
    subst (λ (e : EdgeRow). HasPair c.loop-place.scan c.args.from c.in-Some.target e.weight) (sym c.edge-edge.ensures)
    (target_pair c.args.scan.now c.edges.ensures.valid c.requires.complete c.args.from c.requires.open.row
    c.loop-place.scan c.loop-place.place c.loop-place.invariant.expanding low high
    c.in-Some.target (ap (λ (e : EdgeRow). e.target) (sym c.edge-edge.ensures) ∙ c.in-Some.is))

pub loop-place-preserved : goal.loop-place-preserved
loop-place-preserved c =
    let old = c.args.scan.now in
    let low = subst (λ (r : VertexRow). r.first ≤ c.loop-place.place) c.vertex-row.ensures c.loop-place.auto.place in
    let high = subst (λ (r : VertexRow). c.loop-place.place < r.first + r.count) c.vertex-row.ensures
    c.loop-place-test.true in
    elim c.match-edge.branch [
      | in-Some w ↦ rw (w.scan-is, w.waiting-is) (record {
        heap = w.follow-waiting.ensures.heap;
        expanding = expanding_some old c.edges.ensures.valid c.requires.complete c.args.from c.requires.open.row
            c.loop-place.scan c.loop-place.place c.loop-place.invariant.expanding low high
            w.in-Some.target (ap (λ (e : EdgeRow). e.target) (sym c.edge-edge.ensures) ∙ w.in-Some.is)
            w.follow-waiting.new.scan
            (subst (λ (e : EdgeRow). FollowsPair c.loop-place.scan w.follow-waiting.new.scan c.args.from
            w.in-Some.target e.weight) c.edge-edge.ensures w.follow-waiting.ensures.follows);
      })
      | in_default w ↦ rw (w.scan-is, w.waiting-is) (record {
        heap = c.loop-place.invariant.heap;
        expanding = expanding_none old c.edges.ensures.valid c.requires.complete c.args.from c.requires.open.row
            c.loop-place.scan c.loop-place.place c.loop-place.invariant.expanding low high
            (ap (λ (e : EdgeRow). e.target) (sym c.edge-edge.ensures) ∙ w.in_default.is);
      })
    ]

pub returns-clause-search : goal.returns-clause-search
returns-clause-search c =
    expanded c.args.scan.now c.edges.ensures.valid c.requires.complete c.args.from c.requires.open.row c.loop-place.scan
    c.loop-place.place c.loop-place.invariant.expanding
    (subst (λ (r : VertexRow). r.first + r.count ≤ c.loop-place.place) c.vertex-row.ensures c.loop-place-test.false)
