use Rattle.std.proofs.Common.{◌≡◌, ℕ, inl, inr, sym, ap, ap₂, ◌∙◌, subst, arith}
use Rattle.std.proofs.lemmas.Bool.{cases_eq}
use Rattle.graph_kinds.specs.Graph.{Graph, IsGraph}
use Rattle.graph_kinds.specs.Path.{least_cost}
use Rattle.scan_record.specs.declared.rows.VertexRow.{VertexRow}
use Rattle.scan_record.specs.Scan.{ScanValue}
use Rattle.scan_record.specs.Asked.{KeepsRows}
use Rattle.scan_record.proofs.ScanFacts.{graph_kept, rows_kept, complete_kept, kept_on}
use Rattle.path_costs.specs.Heap.{state_of}
use Rattle.path_costs.specs.Search.{key_of_row}
use Rattle.path_costs.proofs.HeapPlaces.{waits}
use Rattle.path_costs.proofs.Expanding.{rows_long}
use Rattle.path_costs.proofs.Settling.{nowhere, settled_tree}
use Rattle.path_costs.proofs.Taking.{IsTakenRow, is_taken}
use Rattle.path_costs.proofs.search.search.Goals as goal

pub loop-waiting-init : goal.loop-waiting-init
loop-waiting-init c = record {
  kept = c.begin.ensures.kept;
  heap = c.begin.ensures.heap;
  search = c.begin.ensures.search;
  not_yet = λ r h e. absurd (c.begin.ensures.unsettled r h e);
}

-- rows stay where only the slots of the heap are written
slots_kept : (s new : ScanValue) → new ≡ record s { slot_zero = new.slot_zero; slot_one = new.slot_one }
    → KeepsRows s new
slots_kept s new e = record {
  nodes = ap (λ (t : ScanValue). t.nodes) e;
  rows = ap (λ (t : ScanValue). t.rows) e;
  started = ap (λ (t : ScanValue). t.started) e;
  next = ap (λ (t : ScanValue). t.next) e;
  edges = ap (λ (t : ScanValue). t.edges) e;
}

pub returns-then-vertex-goal-clause-found : goal.returns-then-vertex-goal-clause-found
returns-then-vertex-goal-clause-found c =
    let old = c.args.scan.now in
    let s = c.loop-waiting.scan in
    let new = c.take-row.new.scan in
    let row = c.take-row.result in
    let taken : IsTakenRow s new row = is_taken s new row c.vertices.ensures.valid c.loop-waiting.invariant.search
    c.take-row.ensures.row c.take-row.ensures.waited c.take-row.ensures.least c.take-row.ensures.states
    c.take-row.ensures.rest in
    let kept = kept_on old s new c.loop-waiting.invariant.kept (slots_kept s new c.take-row.ensures.rest) in
    let is = complete_kept old new kept c.requires in (
      omega (arith, c.take-row.ensures.row, rows_long old s c.loop-waiting.invariant.kept),
      ap (λ (v : VertexRow). v.key) (sym (rows_kept old new kept row)) ∙
          (ap (λ (v : VertexRow). v.key) (sym c.vertex.ensures) ∙ c.if-vertex-goal.true),
      taken.open_row.settled,
      settled_tree new c.vertices.ensures.valid is row taken.open_row,
    )

pub returns-then-vertex-goal-clause-graph : goal.returns-then-vertex-goal-clause-graph
returns-then-vertex-goal-clause-graph c = subst IsGraph (graph_kept c.args.scan.now c.loop-waiting.scan
    c.loop-waiting.invariant.kept) c.loop-waiting.invariant.search.graph

pub returns-clause-graph : goal.returns-clause-graph
returns-clause-graph c = subst IsGraph (graph_kept c.args.scan.now c.loop-waiting.scan c.loop-waiting.invariant.kept)
    c.loop-waiting.invariant.search.graph

pub expand-waiting-requires-clause-open : goal.expand-waiting-requires-clause-open
expand-waiting-requires-clause-open c =
    (is_taken c.loop-waiting.scan c.take-row.new.scan c.take-row.result c.vertices.ensures.valid
    c.loop-waiting.invariant.search c.take-row.ensures.row c.take-row.ensures.waited c.take-row.ensures.least
    c.take-row.ensures.states c.take-row.ensures.rest).open_row

pub loop-waiting-preserved : goal.loop-waiting-preserved
loop-waiting-preserved c =
    let old = c.args.scan.now in
    let s = c.loop-waiting.scan in
    let mid = c.take-row.new.scan in
    let row = c.take-row.result in
    let new = c.expand-waiting.new.scan in
    let taken : IsTakenRow s mid row = is_taken s mid row c.vertices.ensures.valid c.loop-waiting.invariant.search
    c.take-row.ensures.row c.take-row.ensures.waited c.take-row.ensures.least c.take-row.ensures.states
    c.take-row.ensures.rest in
    let first = slots_kept s mid c.take-row.ensures.rest in
    let kept = kept_on s mid new first c.expand-waiting.ensures.kept in
    let key : (r : ℕ) → key_of_row new r ≡ key_of_row s r = λ r. ap (λ (v : VertexRow). v.key)
    (rows_kept s new kept r) in
    record {
      kept = kept_on old s new c.loop-waiting.invariant.kept kept;
      heap = c.expand-waiting.ensures.heap;
      search = c.expand-waiting.ensures.search;
      not_yet = λ r h e f. elim (cases_eq r row) as (λ _. ⊥) [
        | inl same ↦ c.if-vertex-goal.false (ap (λ (v : VertexRow). v.key)
            (c.vertex.ensures ∙ rows_kept s mid first row) ∙ (ap (key_of_row s) (sym same) ∙ (sym (key r) ∙ f)))
        | inr ne ↦
            let was : state_of s r ≡ 1 = taken.only r (c.expand-waiting.ensures.only r e) ne in
            c.loop-waiting.invariant.not_yet r (omega (arith, h, rows_long s new kept)) was (sym (key r) ∙ f)
      ];
    }

pub returns-clause-none : goal.returns-clause-none
returns-clause-none c =
    let old = c.args.scan.now in
    let s = c.loop-waiting.scan in
    let scan = c.vertices-2.ensures.valid in
    let kept = c.loop-waiting.invariant.kept in
    let none = nowhere s scan (complete_kept old s kept c.requires) c.loop-waiting.invariant.search
    (λ r h e. let two = waits s scan r h e in let held = c.loop-waiting.invariant.heap.placed.held r h two in absurd
    (omega (arith, held.0, c.loop-waiting-test.false, two)))
    c.args.goal c.loop-waiting.invariant.not_yet in
    ap₂ (λ (g : Graph) (k : ℕ). least_cost g k c.args.goal) (sym (graph_kept old s kept))
    (ap (λ (v : VertexRow). v.key) (sym (rows_kept old s kept 0))) ∙ none
