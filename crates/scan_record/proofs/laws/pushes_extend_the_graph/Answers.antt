use Rattle.scan_record.proofs.Pushes.{graph-vertex, graph-started, graph-edge, graph-edge_out}
use Rattle.scan_record.proofs.laws.pushes_extend_the_graph.Goals as goal

pub returns-clause-vertex : goal.returns-clause-vertex
returns-clause-vertex c = graph-vertex

pub returns-clause-started : goal.returns-clause-started
returns-clause-started c = graph-started

pub returns-clause-edge : goal.returns-clause-edge
returns-clause-edge c = graph-edge

pub returns-clause-edge_without_target : goal.returns-clause-edge_without_target
returns-clause-edge_without_target c = graph-edge_out
