use Rattle.std.proofs.Common.{◌≡◌, ℕ, List, [], Some, refl, sym, ap, ap₂, ◌∙◌, subst, arith}
use Rattle.graph_kinds.specs.declared.outcome.Outcome.TheVariants as out
use Rattle.graph_kinds.specs.Graph.{Graph}
use Rattle.graph_kinds.specs.Answer.{by_cost}
use Rattle.graph_kinds.specs.Path.{IsPath, cost_of, IsLeastCost, least_cost, cheapest_path, GoesByLeastKeys}
use Rattle.graph_kinds.proofs.CostsLeast.{some_least, none_empty}
use Rattle.graph_kinds.proofs.CostsCheapest.{cost_law}
use Rattle.graph_kinds.proofs.CostsOnly.{only_law}
use Rattle.scan_record.specs.declared.rows.VertexRow.{VertexRow}
use Rattle.scan_record.specs.Asked.{root_of}
use Rattle.scan_record.specs.Scan.{ScanValue}
use Rattle.scan_record.specs.ScanGraph.{graph_of_scan}
use Rattle.scan_record.proofs.ScanFacts.{row_key, graph_kept, rows_kept}
use Rattle.path_costs.specs.Search.{key_of_row}
use Rattle.path_costs.proofs.Expanding.{rows_long}
use Rattle.path_costs.proofs.path.cheapest.Goals as goal

-- the cost of the goal's row is the least cost
least : (c : goal.After-write_back) → least_cost (graph_of_scan c.args.scan.now)
    (root_of c.args.scan.now) c.args.goal ≡ Some c.cost-cost.result
least c =
    let old = c.args.scan.now in
    let s = c.search.new.scan in
    let kept = c.search.ensures.kept in
    let row = c.in-Some.row in
    let found = c.in-Some.ensures.found in
    let key : (r : ℕ) → key_of_row old r ≡ key_of_row s r = λ r. ap (λ (v : VertexRow). v.key)
    (sym (rows_kept old s kept r)) in
    ap₂ (λ (g : Graph) (a : ℕ). least_cost g a c.args.goal) (sym (graph_kept old s kept)) (key 0)
    ∙ (ap (least_cost (graph_of_scan s) (root_of s)) (sym found.1 ∙ key row)
    ∙ (found.3.costs row (omega (arith, found.0, rows_long old s kept)) found.2 ∙ ap (λ (k : ℕ). Some k)
    (sym c.cost-cost.ensures)))

-- what is written is a path to the goal
path : (c : goal.After-write_back) → IsPath (graph_of_scan c.args.scan.now)
    (root_of c.args.scan.now) c.args.goal c.write_back.new.scan.keys
path c =
    let old = c.args.scan.now in
    let s = c.search.new.scan in
    let kept = c.search.ensures.kept in
    let key : (r : ℕ) → key_of_row s r ≡ key_of_row old r = λ r. ap (λ (v : VertexRow). v.key)
    (rows_kept old s kept r) in
    let keys = ap (λ (t : ScanValue). t.keys) c.write_back.ensures in
    let there = subst (λ (p : List ℕ). IsPath (graph_of_scan s) (root_of s) (key_of_row s c.in-Some.row) p)
    (sym keys) c.gather-count.ensures.path in
    let on_graph = subst (λ (g : Graph). IsPath g (root_of s) (key_of_row s c.in-Some.row) c.write_back.new.scan.keys)
    (graph_kept old s kept) there in
    let from_root = subst (λ (a : ℕ). IsPath (graph_of_scan old) a
    (key_of_row s c.in-Some.row) c.write_back.new.scan.keys) (key 0) on_graph in
    subst (λ (b : ℕ). IsPath (graph_of_scan old) (root_of old) b c.write_back.new.scan.keys)
    (key c.in-Some.row ∙ c.in-Some.ensures.found.1) from_root

-- that goes by the least keys
keys : (c : goal.After-write_back) → GoesByLeastKeys (graph_of_scan c.args.scan.now)
    (root_of c.args.scan.now) c.write_back.new.scan.keys
keys c =
    let old = c.args.scan.now in
    let s = c.search.new.scan in
    let kept = c.search.ensures.kept in
    let there = subst (GoesByLeastKeys (graph_of_scan s) (root_of s))
    (sym (ap (λ (t : ScanValue). t.keys) c.write_back.ensures)) c.gather-count.ensures.keys in
    let on_graph = subst (λ (g : Graph). GoesByLeastKeys g (root_of s) c.write_back.new.scan.keys)
    (graph_kept old s kept) there in
    subst (λ (a : ℕ). GoesByLeastKeys (graph_of_scan old) a c.write_back.new.scan.keys)
    (ap (λ (v : VertexRow). v.key) (rows_kept old s kept 0)) on_graph

-- so it is the cheapest path
only : (c : goal.After-write_back) → c.write_back.new.scan.keys ≡ cheapest_path (graph_of_scan c.args.scan.now)
    (root_of c.args.scan.now) c.args.goal
only c = only_law (graph_of_scan c.args.scan.now) (root_of c.args.scan.now) c.args.goal c.write_back.new.scan.keys
    c.search.ensures.graph (row_key c.args.scan.now 0 c.requires.has_root) (path c) (keys c)

same_cost : (c d : ℕ) → out.Cost c ≡ out.Cost d → c ≡ d
same_cost c d e = cc

best : (c : goal.After-write_back) → IsLeastCost (graph_of_scan c.args.scan.now)
    (root_of c.args.scan.now) c.args.goal c.cost-cost.result
best c = some_least (graph_of_scan c.args.scan.now) (root_of c.args.scan.now) c.args.goal c.search.ensures.graph
    (row_key c.args.scan.now 0 c.requires.has_root) c.cost-cost.result (least c)

pub returns-in-Some-clause-answer : goal.returns-in-Some-clause-answer
returns-in-Some-clause-answer c =
    let ends : c.write_back.new.scan.ends ≡ [] = ap (λ (t : ScanValue). t.ends) c.write_back.ensures in
    (λ i. record { outcome = out.Cost c.cost-cost.result; keys = only c i; ends = ends i })
    ∙ sym (ap (λ o. by_cost o (cheapest_path (graph_of_scan c.args.scan.now) (root_of c.args.scan.now) c.args.goal))
    (least c))

pub returns-in-Some-clause-cost : goal.returns-in-Some-clause-cost
returns-in-Some-clause-cost c d e = subst (IsLeastCost (graph_of_scan c.args.scan.now)
    (root_of c.args.scan.now) c.args.goal) (same_cost c.cost-cost.result d e) (best c)

pub returns-in-Some-clause-path : goal.returns-in-Some-clause-path
returns-in-Some-clause-path c d e =
    let g = graph_of_scan c.args.scan.now in (
      path c,
      ap (cost_of g) (only c)
          ∙ (cost_law g (root_of c.args.scan.now) c.args.goal c.cost-cost.result c.search.ensures.graph
          (row_key c.args.scan.now 0 c.requires.has_root) (least c) ∙ same_cost c.cost-cost.result d e),
    )

pub returns-in-Some-clause-cheapest : goal.returns-in-Some-clause-cheapest
returns-in-Some-clause-cheapest c d e p h = omega (arith, (best c).least p h, same_cost c.cost-cost.result d e)

pub returns-in-Some-clause-least_keys : goal.returns-in-Some-clause-least_keys
returns-in-Some-clause-least_keys c d e = keys c

pub returns-in-Some-clause-no_path : goal.returns-in-Some-clause-no_path
returns-in-Some-clause-no_path c = (λ e. absurd (cc), λ none. absurd (none c.write_back.new.scan.keys (path c)))

pub returns-in-None-clause-no_path : goal.returns-in-None-clause-no_path
returns-in-None-clause-no_path c = (
  λ _. none_empty (graph_of_scan c.args.scan.now) (root_of c.args.scan.now) c.args.goal c.search.ensures.graph
      (row_key c.args.scan.now 0 c.requires.has_root) c.in-None.ensures.none,
  λ _. refl,
)
