use Rattle.std.proofs.Common.{ℕ, List, length, ap}
use Rattle.scan_record.specs.Asked.{root_of}
use Rattle.scan_record.specs.ScanGraph.{graph_of_scan}
use Rattle.scan_record.proofs.ScanFacts.{graph_kept, complete_kept}
use Rattle.path_levels.proofs.Searching.{levels_answer}
use Rattle.path_levels.proofs.all_levels.levels.Goals as goal

pub returns-clause-answer : goal.returns-clause-answer
returns-clause-answer c = levels_answer (graph_of_scan c.args.scan.now)
    (root_of c.args.scan.now) c.search.new.scan c.search.ensures.keys c.search.ensures.ends _
    (ap (λ (xs : List ℕ). length xs) c.ends-2.ensures)

pub returns-clause-graph : goal.returns-clause-graph
returns-clause-graph c = graph_kept c.args.scan.now c.search.new.scan c.search.ensures.kept.rows

pub returns-clause-complete : goal.returns-clause-complete
returns-clause-complete c = complete_kept c.args.scan.now c.search.new.scan c.search.ensures.kept.rows c.requires
