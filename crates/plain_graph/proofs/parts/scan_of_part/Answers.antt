use Rattle.std.proofs.Common.{◌∙◌}
use Rattle.graph_kinds.specs.Graph.{IsGraph}
use Rattle.scan_record.specs.Scan.{IsComplete}
use Rattle.scan_record.specs.ScanGraph.{graph_of_scan}
use Rattle.plain_graph.specs.Kept.{graph_in_maps}
use Rattle.plain_graph.proofs.Held.{has-held}
use Rattle.plain_graph.proofs.Collects.{collected_is_complete, collected_is_part}
use Rattle.plain_graph.proofs.parts.scan_of_part.Goals as goal

pub returns-clause-complete : goal.returns-clause-complete
returns-clause-complete c = collected_is_complete c.args.vertices.now c.collect.new.numbers c.collect.new.scan
    (c.in_ok-collect.ensures.collected c.if-not-branch.false)

pub returns-clause-graph : goal.returns-clause-graph
returns-clause-graph c =
    let s = c.collect.new.scan in
    let whole = c.in_ok-collect.ensures.collected c.if-not-branch.false in
    let complete : IsComplete s = collected_is_complete c.args.vertices.now c.collect.new.numbers s whole in
    let sound : IsGraph (graph_of_scan s) = c.complete_scans_are_graphs.ensures s c.is_valid.ensures complete in
    c.parts_are_answered_alike.ensures.only (graph_in_maps c.args.vertices.now)
    (graph_of_scan s) c.args.root c.requires.sound (has-held c.args.vertices.now c.args.root ∙ c.requires.held)
    (collected_is_part c.args.vertices.now c.collect.new.numbers s c.args.root (c.scan_graph_looked_up.ensures.keys s)
    (λ k key h. c.scan_graph_looked_up.ensures.weights s k key c.is_valid.ensures complete h)
    sound c.requires.rises whole (c.in_ok-collect.ensures.root c.if-not-branch.false))
