use Rattle.std.proofs.Common.{◌≡◌, ℕ, ◌-◌, ◌≤◌, get_or, set, sym, ap, ◌∙◌, subst}
use Rattle.scan_record.specs.Scan.{ScanValue}
use Rattle.path_costs.specs.Heap.{cost_at, IsBelow}
use Rattle.path_costs.proofs.HeapEntries.{lowered_below}
use Rattle.path_costs.proofs.heap.lower.Goals as goal

pub rise-requires-clause-below : goal.rise-requires-clause-below
rise-requires-clause-below c p lt b =
    let s = c.args.scan.now in
    let place : c.work-place.result ≡ get_or s.slot_one c.args.row 0 = c.work-place.ensures ∙ ap
    (λ (t : ScanValue). get_or t.slot_one c.args.row 0) c.set_cost.ensures in
    let below = lowered_below s c.vertices.ensures.valid c.args.places c.args.row c.args.cost c.requires.heap
    c.requires.row c.requires.waits c.requires.lower p lt (subst (λ (v : ℕ). IsBelow (v - 2) p) place b) in
    subst (λ (t : ScanValue). cost_at t (c.work-place.result - 2) ≤ cost_at t p) (sym c.set_cost.ensures)
    (subst (λ (v : ℕ). cost_at (record s { costs = set s.costs c.args.row c.args.cost }) (v - 2) ≤ cost_at
    (record s { costs = set s.costs c.args.row c.args.cost }) p) (sym place) below)
