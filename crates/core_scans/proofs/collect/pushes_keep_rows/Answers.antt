use Rattle.core_scans.proofs.PushesKeepRows.{longer_same, longer_vertex, met_pushed, reached_vertex, reached_started}
use Rattle.core_scans.proofs.PushesKeepRows.{reached_edge, reached_new}
use Rattle.core_scans.proofs.collect.pushes_keep_rows.Goals as goal

pub returns-clause-same : goal.returns-clause-same
returns-clause-same c = longer_same

pub returns-clause-longer : goal.returns-clause-longer
returns-clause-longer c = longer_vertex

pub returns-clause-met : goal.returns-clause-met
returns-clause-met c = met_pushed

pub returns-clause-vertex : goal.returns-clause-vertex
returns-clause-vertex c = reached_vertex

pub returns-clause-started : goal.returns-clause-started
returns-clause-started c = reached_started

pub returns-clause-edge : goal.returns-clause-edge
returns-clause-edge c = reached_edge

pub returns-clause-new : goal.returns-clause-new
returns-clause-new c = reached_new
