use Rattle.std.proofs.Common.{◌≡◌, ◌+◌, set, sym, ap, ◌∙◌, subst}
use Rattle.scan_record.specs.Scan.{ScanValue}
use Rattle.path_costs.specs.Heap.{states_of, IsPlaced}
use Rattle.path_costs.proofs.HeapPlaces.{swapped_placed, swapped_states}
use Rattle.path_costs.proofs.heap.swap.Goals as goal

-- both writes
both : (c : goal.After-put-2) → c.put-2.new.scan ≡ record c.args.scan.now {
  slot_zero = set (set c.args.scan.now.slot_zero c.args.first c.work-down.result) c.args.second c.work-up.result;
  slot_one = set (set c.args.scan.now.slot_one c.work-down.result (c.args.first + 2)) c.work-up.result
      (c.args.second + 2);
}
both c =
    let then : ScanValue → ScanValue = λ (u : ScanValue). record u {
      slot_zero = set u.slot_zero c.args.second c.work-up.result;
      slot_one = set u.slot_one c.work-up.result
          (c.args.second + 2);
    } in
    c.put-2.ensures.put ∙ ap then c.put.ensures.put

pub returns-clause-placed : goal.returns-clause-placed
returns-clause-placed c =
    subst (λ (s : ScanValue). IsPlaced s c.args.places) (sym (both c))
    (swapped_placed c.args.scan.now c.put.ensures.valid c.args.places c.args.first c.args.second c.work-up.result
    c.work-down.result c.requires.placed c.requires.first c.requires.second c.work-up.ensures c.work-down.ensures)

pub returns-clause-states : goal.returns-clause-states
returns-clause-states c =
    ap (λ (s : ScanValue). states_of s) (both c)
    ∙ swapped_states c.args.scan.now c.put.ensures.valid c.args.places c.args.first c.args.second c.work-up.result
    c.work-down.result c.requires.placed c.requires.first c.requires.second c.work-up.ensures c.work-down.ensures
