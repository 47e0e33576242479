use Rattle.std.proofs.Common.{◌≡◌, ℕ, ◌+◌, ◌<◌, set, sym, ap, ◌∙◌, subst, arith}
use Rattle.scan_record.specs.declared.rows.VertexRow.{VertexRow}
use Rattle.scan_record.specs.Scan.{ScanValue}
use Rattle.path_costs.specs.Heap.{states_of, state_of}
use Rattle.path_costs.specs.Search.{key_of_row, parent_of, row_cost, FollowsPair}
use Rattle.path_costs.proofs.HeapPlaces.{zero_state, some_state}
use Rattle.path_costs.proofs.FollowCases.{new_follows, cheaper_follows, lesser_follows, tie_parent, dear_waits}
use Rattle.path_costs.proofs.FollowCases.{both_written}
use Rattle.path_costs.proofs.search.follow.Goals as goal

pub returns-then-work-eq-NOT_MET-clause-follows : goal.returns-then-work-eq-NOT_MET-clause-follows
returns-then-work-eq-NOT_MET-clause-follows c =
    let s = c.args.scan.now in
    let scan = c.vertices.ensures.valid in
    let new = zero_state s scan c.args.row c.requires.row (sym c.work.ensures ∙ c.if-work-eq-NOT_MET.true) in
    let states = c.enter.ensures.states ∙ ap (λ (t : ScanValue). set (states_of t) c.args.row 2) c.set_work.ensures in
    subst (λ (t : ScanValue). FollowsPair s t c.args.from c.args.row c.args.weight)
    (sym (both_written s c.set_work.new.self c.enter.new.scan c.args.row c.args.from
    (c.cost.result + c.args.weight) _ c.set_work.ensures c.enter.ensures.rest
    (ap (λ (k : ℕ). k + c.args.weight) c.cost.ensures)))
    (new_follows s scan c.args.from c.args.row c.args.weight c.requires.open c.requires.row c.requires.pair new
    (omega arith) c.enter.new.scan.slot_zero c.enter.new.scan.slot_one states)

pub lower-requires-clause-waits : goal.lower-requires-clause-waits
lower-requires-clause-waits c =
    let s = c.args.scan.now in
    let scan = c.vertices.ensures.valid in
    let met = some_state s scan c.args.row c.requires.row (λ e. c.if-work-eq-NOT_MET.false (c.work.ensures ∙ e)) in
    let dear : row_cost s c.args.from < row_cost s c.args.row = omega
    (arith, c.cost.ensures, c.cost-known.ensures, c.if-cost-known.true) in
    ap (λ (t : ScanValue). state_of t c.args.row) c.set_work-then-cost-known.ensures
    ∙ dear_waits s scan c.args.from c.args.row c.args.weight c.requires.open c.requires.row c.requires.pair met dear

pub returns-then-cost-known-clause-follows : goal.returns-then-cost-known-clause-follows
returns-then-cost-known-clause-follows c =
    let s = c.args.scan.now in
    let scan = c.vertices.ensures.valid in
    let met = some_state s scan c.args.row c.requires.row (λ e. c.if-work-eq-NOT_MET.false (c.work.ensures ∙ e)) in
    let less : row_cost s c.args.from + c.args.weight < row_cost s c.args.row = omega
    (arith, c.cost.ensures, c.cost-known.ensures, c.if-cost-known.true) in
    let states = c.lower.ensures.states ∙ ap (λ (t : ScanValue). states_of t) c.set_work-then-cost-known.ensures in
    subst (λ (t : ScanValue). FollowsPair s t c.args.from c.args.row c.args.weight)
    (sym (both_written s c.set_work-then-cost-known.new.self c.lower.new.scan c.args.row c.args.from
    (c.cost.result + c.args.weight) _ c.set_work-then-cost-known.ensures c.lower.ensures.rest
    (ap (λ (k : ℕ). k + c.args.weight) c.cost.ensures)))
    (cheaper_follows s scan c.args.from c.args.row c.args.weight c.requires.open c.requires.row c.requires.pair met less
    (omega arith) c.lower.new.scan.slot_zero c.lower.new.scan.slot_one states)

pub vertex-requires-2 : goal.vertex-requires-2
vertex-requires-2 c =
    let s = c.args.scan.now in
    let scan = c.vertices.ensures.valid in
    let met = some_state s scan c.args.row c.requires.row (λ e. c.if-work-eq-NOT_MET.false (c.work.ensures ∙ e)) in
    let tie : row_cost s c.args.row ≡ row_cost s c.args.from + c.args.weight = omega
    (arith, c.cost.ensures, c.cost-known.ensures, c.if-cost-known.false, c.if-known-cost.false) in
    let there = tie_parent s scan c.args.from c.args.row c.args.weight c.requires.open c.requires.row c.requires.pair
    met tie in
    omega (arith, c.work-2.ensures, there)

pub returns-then-vertex-clause-follows : goal.returns-then-vertex-clause-follows
returns-then-vertex-clause-follows c =
    let s = c.args.scan.now in
    let scan = c.vertices.ensures.valid in
    let met = some_state s scan c.args.row c.requires.row (λ e. c.if-work-eq-NOT_MET.false (c.work.ensures ∙ e)) in
    let tie : row_cost s c.args.row ≡ row_cost s c.args.from + c.args.weight = omega
    (arith, c.cost.ensures, c.cost-known.ensures, c.if-cost-known.false, c.if-known-cost.false) in
    let parent : c.vertex-2.result.key ≡ key_of_row s (parent_of s c.args.row) = ap
    (λ (v : VertexRow). v.key) c.vertex-2.ensures ∙ ap (key_of_row s) c.work-2.ensures in
    let less : key_of_row s c.args.from < key_of_row s (parent_of s c.args.row) = omega
    (arith, parent, ap (λ (v : VertexRow). v.key) c.vertex.ensures, c.if-vertex.true) in
    subst (λ (t : ScanValue). FollowsPair s t c.args.from c.args.row c.args.weight) (sym c.set_work-then-vertex.ensures)
    (lesser_follows s scan c.args.from c.args.row c.args.weight c.requires.open c.requires.row c.requires.pair met tie
    (omega arith) less)
