use Rattle.std.proofs.Common.{◌≡◌, ◌<◌, get_or, set, length, arith}
use Rattle.std.proofs.lemmas.List.{get_or_default}
use Rattle.std.proofs.lemmas.Result.{IfOk-weaker}
use Rattle.graph_kinds.specs.Graph.{Graph}
use Rattle.core_journal.specs.GraphOf.{graph_of}
use Rattle.shared_graph.specs.Callers.{CallerValue, front_of}
use Rattle.shared_graph.specs.Closing.{IsReadBetween}
use Rattle.shared_graph.proofs.Gathered.{read_between}
use Rattle.shared_graph.proofs.graph.SharedGraph.gather_and_read.Goals as goal

pub returns-clause-graph : goal.returns-clause-graph
returns-clause-graph c =
    let xs = c.args.callers.now in
    let ys = c.gather.new.callers in
    let a = c.read_by.new.caller in
    let b = get_or ys 0 c.index-callers-0.result in
    let some : 0 < length ys = let n = c.gather.ensures.looks.count in let m = c.requires.some in omega (arith, n, m) in
    let at : (d : CallerValue) → get_or ys 0 d ≡ b = λ d. get_or_default ys 0 d c.index-callers-0.result some in
    IfOk-weaker c.read_by.result (λ (g : Graph). front_of a ≡ front_of b → g ≡ graph_of (front_of b))
    (IsReadBetween xs (set ys 0 a))
    (λ g graph. read_between xs ys a b g c.requires.some c.gather.ensures.looks c.gather.ensures.met at
    c.read_by.ensures.looks graph)
    c.read_by.ensures.graph
