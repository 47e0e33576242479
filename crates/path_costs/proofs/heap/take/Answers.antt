use Rattle.std.proofs.Common.{◌-◌, ◌≤◌, ℕ, get_or, set, sym, ap, ◌∙◌, subst}
use Rattle.scan_record.specs.Scan.{ScanValue}
use Rattle.path_costs.specs.Heap.{states_of, IsHeapBut}
use Rattle.path_costs.proofs.HeapPlaces.{taken_states}
use Rattle.path_costs.proofs.HeapEntries.{taken_heap, first_waits}
use Rattle.path_costs.proofs.heap.take.Goals as goal

pub sink-requires : goal.sink-requires
sink-requires c =
    subst (λ (s : ScanValue). IsHeapBut s (c.args.places - 1) 0) (sym c.set_work.ensures)
    (taken_heap c.args.scan.now c.swap.new.scan c.vertices-2.ensures.valid c.args.places c.work-row.result
    c.requires.heap c.requires.some c.swap.ensures.placed
    (ap (λ (s : ScanValue). s.costs) c.swap.ensures.rest) (c.swap.ensures.at_second ∙ sym c.work-row.ensures)
    c.swap.ensures.others)

pub returns-clause-least : goal.returns-clause-least
returns-clause-least c r h e =
    subst (λ (k : ℕ). get_or c.args.scan.now.costs k 0 ≤ get_or c.args.scan.now.costs r 0) (sym c.work-row.ensures)
    (first_waits c.args.scan.now c.vertices.ensures.valid c.args.places c.requires.heap r h e)

pub returns-clause-states : goal.returns-clause-states
returns-clause-states c =
    c.sink.ensures.states
    ∙ (ap (λ (s : ScanValue). states_of s) c.set_work.ensures
    ∙ (taken_states c.swap.new.scan c.vertices-2.ensures.valid c.args.places c.work-row.result c.swap.ensures.placed
    c.requires.some (c.swap.ensures.at_second ∙ sym c.work-row.ensures)
    ∙ ap (λ xs. set xs c.work-row.result 1) c.swap.ensures.states))
