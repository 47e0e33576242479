use Rattle.std.proofs.Common.{◌≡◌, ℕ, false, List, [], Some, None, refl, sym, ap, ◌∙◌, subst}
use Rattle.graph_kinds.specs.declared.outcome.Outcome.TheVariants as out
use Rattle.graph_kinds.specs.Answer.{by_path}
use Rattle.graph_kinds.specs.Levels.{stands_in, reach_path}
use Rattle.graph_kinds.proofs.LevelsReach.{reach_path_law, shortest_law, no_reach_law}
use Rattle.scan_record.specs.Asked.{root_of}
use Rattle.scan_record.specs.Scan.{ScanValue}
use Rattle.scan_record.specs.ScanGraph.{graph_of_scan}
use Rattle.scan_record.proofs.ScanFacts.{row_key}
use Rattle.path_levels.proofs.Trails.{reach_met, reach_nowhere}
use Rattle.path_levels.proofs.shortest.reach.Goals as goal

-- what is written is the path
written : (c : goal.After-write_back) → reach_path (graph_of_scan c.args.scan.now)
    (root_of c.args.scan.now) c.args.goal ≡ Some c.write_back.new.scan.keys
written c =
    let old = c.args.scan.now in
    let found = c.search_to.new.scan in
    let front = c.in-Some.ensures.front in
    ap (reach_path (graph_of_scan old) (root_of old)) (sym c.in-Some.ensures.place.1)
    ∙ (reach_met (graph_of_scan old) (root_of old) found.keys front.later found.slot_one
    (row_key old 0 c.requires.has_root) front.all c.in-Some.ensures.parents c.in-Some.place
    c.in-Some.ensures.place.0
    ∙ ap (λ (p : List ℕ). Some p) (sym (ap (λ (t : ScanValue). t.keys) c.write_back.ensures
    ∙ c.gather-count.ensures.gathered)))

nowhere : (c : goal.After-clear_answer) → reach_path (graph_of_scan c.args.scan.now)
    (root_of c.args.scan.now) c.args.goal ≡ None
nowhere c = reach_nowhere (graph_of_scan c.args.scan.now) (root_of c.args.scan.now) c.args.goal
    (subst (λ (q : List ℕ). stands_in q c.args.goal ≡ false) c.in-None.ensures.all c.in-None.ensures.none)

pub returns-in-Some-clause-answer : goal.returns-in-Some-clause-answer
returns-in-Some-clause-answer c =
    ap (λ (es : List ℕ). record { outcome = out.Path; keys = c.write_back.new.scan.keys; ends = es })
    (ap (λ (t : ScanValue). t.ends) c.write_back.ensures) ∙ sym (ap by_path (written c))

pub returns-in-Some-clause-path : goal.returns-in-Some-clause-path
returns-in-Some-clause-path c _ = reach_path_law (graph_of_scan c.args.scan.now)
    (root_of c.args.scan.now) c.args.goal c.write_back.new.scan.keys c.search_to.ensures.graph
    (row_key c.args.scan.now 0 c.requires.has_root) (written c)

pub returns-in-Some-clause-shortest : goal.returns-in-Some-clause-shortest
returns-in-Some-clause-shortest c _ = shortest_law (graph_of_scan c.args.scan.now)
    (root_of c.args.scan.now) c.args.goal c.write_back.new.scan.keys c.search_to.ensures.graph
    (row_key c.args.scan.now 0 c.requires.has_root) (written c)

pub returns-in-Some-clause-no_path : goal.returns-in-Some-clause-no_path
returns-in-Some-clause-no_path c = (
  λ e. absurd (cc),
  λ none. absurd (none c.write_back.new.scan.keys (reach_path_law (graph_of_scan c.args.scan.now)
      (root_of c.args.scan.now) c.args.goal c.write_back.new.scan.keys c.search_to.ensures.graph
      (row_key c.args.scan.now 0 c.requires.has_root) (written c))),
)

pub returns-in-None-clause-answer : goal.returns-in-None-clause-answer
returns-in-None-clause-answer c =
    let keys : c.clear_answer.new.self.keys ≡ [] = ap (λ (t : ScanValue). t.keys) c.clear_answer.ensures in
    let ends : c.clear_answer.new.self.ends ≡ [] = ap (λ (t : ScanValue). t.ends) c.clear_answer.ensures in
    (λ i. record { outcome = out.NoPath; keys = keys i; ends = ends i }) ∙ sym (ap by_path (nowhere c))

pub returns-in-None-clause-no_path : goal.returns-in-None-clause-no_path
returns-in-None-clause-no_path c = (
  λ _. (no_reach_law (graph_of_scan c.args.scan.now) (root_of c.args.scan.now) c.args.goal c.search_to.ensures.graph
      (row_key c.args.scan.now 0 c.requires.has_root)).0 (nowhere c),
  λ _. refl,
)
