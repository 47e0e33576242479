use Rattle.std.proofs.Common.{length, sym, ap, subst, arith}
use Rattle.scan_record.specs.Scan.{ScanValue}
use Rattle.scan_record.proofs.ScanFacts.{complete_kept}
use Rattle.path_costs.specs.Search.{IsSearch}
use Rattle.path_costs.proofs.Expanding.{rows_long}
use Rattle.path_costs.proofs.Beginning.{empty_heap, root_unmet, begun_search, none_settled}
use Rattle.path_costs.proofs.search.begin.Goals as goal

pub enter-requires-clause-heap : goal.enter-requires-clause-heap
enter-requires-clause-heap c =
    let long = rows_long c.args.scan.now c.forget.new.scan c.forget.ensures.kept in
    empty_heap c.forget.new.scan c.vertices.ensures.valid (λ r h. c.forget.ensures.not_met r (omega (arith, h, long)))

pub enter-requires-clause-new : goal.enter-requires-clause-new
enter-requires-clause-new c =
    let long = rows_long c.args.scan.now c.forget.new.scan c.forget.ensures.kept in
    root_unmet c.forget.new.scan c.vertices.ensures.valid (λ r h. c.forget.ensures.not_met r (omega (arith, h, long)))
    (omega (arith, long, c.requires.has_root))

pub returns-clause-search : goal.returns-clause-search
returns-clause-search c =
    let long = rows_long c.args.scan.now c.forget.new.scan c.forget.ensures.kept in
    subst (λ (t : ScanValue). IsSearch t) (sym c.enter.ensures.rest)
    (begun_search c.forget.new.scan c.vertices.ensures.valid (λ r h. c.forget.ensures.not_met r
    (omega (arith, h, long)))
    (complete_kept c.args.scan.now c.forget.new.scan c.forget.ensures.kept c.requires) c.enter.new.scan.slot_zero
    c.enter.new.scan.slot_one c.enter.ensures.states)

pub returns-clause-unsettled : goal.returns-clause-unsettled
returns-clause-unsettled c r h e =
    let long = rows_long c.args.scan.now c.forget.new.scan c.forget.ensures.kept in
    let same = ap (λ (t : ScanValue). length t.rows) c.enter.ensures.rest in
    let n = none_settled c.forget.new.scan c.vertices.ensures.valid
    (λ k l. c.forget.ensures.not_met k (omega (arith, l, long)))
    (complete_kept c.args.scan.now c.forget.new.scan c.forget.ensures.kept c.requires) c.enter.new.scan.slot_zero
    c.enter.new.scan.slot_one c.enter.ensures.states r (omega (arith, h, same)) e in
    n.1 n.0
