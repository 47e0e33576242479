use Rattle.core_worked.proofs.WorkedAlike.{life_too, met_edge_too, vertex_below_too, before_vertex_too}
use Rattle.core_worked.proofs.WorkedAlike.{vertex_above_too, vertex_link_too, leads_to_vertex_too, edge_below_too}
use Rattle.core_worked.proofs.WorkedAlike.{before_edge_too, edge_above_too, edge_link_too, leads_to_edge_too}
use Rattle.core_worked.proofs.WorkedAlike.{none_fresh_too, target_too, retired_too, spent_too}
use Rattle.core_worked.proofs.laws_alike.worked_facts_are_alike.Goals as goal

pub returns-clause-life_at : goal.returns-clause-life_at
returns-clause-life_at c = life_too

pub returns-clause-met_edge : goal.returns-clause-met_edge
returns-clause-met_edge c = met_edge_too

pub returns-clause-vertex_below : goal.returns-clause-vertex_below
returns-clause-vertex_below c = vertex_below_too

pub returns-clause-before_vertex : goal.returns-clause-before_vertex
returns-clause-before_vertex c = before_vertex_too

pub returns-clause-vertex_above : goal.returns-clause-vertex_above
returns-clause-vertex_above c = vertex_above_too

pub returns-clause-vertex_link : goal.returns-clause-vertex_link
returns-clause-vertex_link c = vertex_link_too

pub returns-clause-leads_to_vertex : goal.returns-clause-leads_to_vertex
returns-clause-leads_to_vertex c = leads_to_vertex_too

pub returns-clause-edge_below : goal.returns-clause-edge_below
returns-clause-edge_below c = edge_below_too

pub returns-clause-before_edge : goal.returns-clause-before_edge
returns-clause-before_edge c = before_edge_too

pub returns-clause-edge_above : goal.returns-clause-edge_above
returns-clause-edge_above c = edge_above_too

pub returns-clause-edge_link : goal.returns-clause-edge_link
returns-clause-edge_link c = edge_link_too

pub returns-clause-leads_to_edge : goal.returns-clause-leads_to_edge
returns-clause-leads_to_edge c = leads_to_edge_too

pub returns-clause-has_no_fresh : goal.returns-clause-has_no_fresh
returns-clause-has_no_fresh c = none_fresh_too

pub returns-clause-target_shown : goal.returns-clause-target_shown
returns-clause-target_shown c = target_too

pub returns-clause-retired : goal.returns-clause-retired
returns-clause-retired c = retired_too

pub returns-clause-spent_since : goal.returns-clause-spent_since
returns-clause-spent_since c = spent_too
