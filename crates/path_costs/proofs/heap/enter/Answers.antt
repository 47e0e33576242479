use Rattle.std.proofs.Common.{◌≡◌, ℕ, ◌+◌, set, sym, ap, ◌∙◌, subst, arith}
use Rattle.scan_record.specs.Scan.{ScanValue}
use Rattle.path_costs.specs.Heap.{states_of, IsHeapBut}
use Rattle.path_costs.proofs.HeapPlaces.{places_left, entered_states}
use Rattle.path_costs.proofs.HeapEntries.{entered_heap}
use Rattle.path_costs.proofs.heap.enter.Goals as goal

-- all writes before the row moves
written : (s mid new : ScanValue) (places row cost : ℕ) → mid ≡ record s { costs = set s.costs row cost }
    → new ≡ record mid { slot_zero = set mid.slot_zero places row; slot_one = set mid.slot_one row (places + 2) }
    → new ≡ record s {
      costs = set s.costs row cost;
      slot_zero = set s.slot_zero places row;
      slot_one = set s.slot_one
          row (places + 2);
    }
written s mid new places row cost a b =
    let then : ScanValue → ScanValue = λ (u : ScanValue). record u
    { slot_zero = set u.slot_zero places row; slot_one = set u.slot_one row (places + 2) } in
    b ∙ ap then a

pub prove-unreachable-requires : goal.prove-unreachable-requires
prove-unreachable-requires c =
    omega (
      arith,
      places_left c.args.scan.now c.vertices.ensures.valid c.args.places c.args.row c.requires.heap.placed
          c.requires.row c.requires.new,
    )

pub rise-requires-clause-heap : goal.rise-requires-clause-heap
rise-requires-clause-heap c =
    subst (λ (s : ScanValue). IsHeapBut s (c.args.places + 1) c.args.places)
    (sym (written c.args.scan.now c.set_cost.new.self c.put.new.scan c.args.places c.args.row c.args.cost
    c.set_cost.ensures c.put.ensures.put))
    (entered_heap c.args.scan.now c.vertices.ensures.valid c.args.places c.args.row c.args.cost c.requires.heap
    c.requires.row c.requires.new)

pub returns-clause-states : goal.returns-clause-states
returns-clause-states c =
    c.rise.ensures.states
    ∙ (ap (λ (s : ScanValue). states_of s) (written c.args.scan.now c.set_cost.new.self c.put.new.scan c.args.places
    c.args.row c.args.cost c.set_cost.ensures c.put.ensures.put)
    ∙ entered_states c.args.scan.now c.vertices.ensures.valid c.args.places c.args.row c.requires.heap.placed
    c.requires.row c.requires.new)
