use Rattle.core_rule.proofs.AlikeViews.{retired_alike, spent_since_alike, target_shown_alike, life_at_alike}
use Rattle.core_rule.proofs.AlikeViews.{met_vertex_alike, met_edge_alike, vertex_below_alike, before_vertex_alike}
use Rattle.core_rule.proofs.AlikeViews.{vertex_above_alike, vertex_link_alike, leads_to_vertex_alike, edge_below_alike}
use Rattle.core_rule.proofs.AlikeViews.{before_edge_alike, edge_above_alike, edge_link_alike, leads_to_edge_alike}
use Rattle.core_rule.proofs.AlikeViews.{has_no_fresh_alike}
use Rattle.core_rule.proofs.stretches.facts_of_a_front_are_alike.Goals as goal

pub returns-clause-life_at : goal.returns-clause-life_at
returns-clause-life_at c = λ v w a x m. life_at_alike v w a x m

pub returns-clause-met_vertex : goal.returns-clause-met_vertex
returns-clause-met_vertex c = λ v w a x m. met_vertex_alike v w a x m

pub returns-clause-met_edge : goal.returns-clause-met_edge
returns-clause-met_edge c = λ v w a source x m. met_edge_alike v w a source x m

pub returns-clause-vertex_below : goal.returns-clause-vertex_below
returns-clause-vertex_below c = λ v w a key place x m. vertex_below_alike v w a key place x m

pub returns-clause-before_vertex : goal.returns-clause-before_vertex
returns-clause-before_vertex c = λ v w a key place m. before_vertex_alike v w a key place m

pub returns-clause-vertex_above : goal.returns-clause-vertex_above
returns-clause-vertex_above c = λ v w a key index m. vertex_above_alike v w a key index m

pub returns-clause-vertex_link : goal.returns-clause-vertex_link
returns-clause-vertex_link c = λ v w a place x m. vertex_link_alike v w a place x m

pub returns-clause-leads_to_vertex : goal.returns-clause-leads_to_vertex
returns-clause-leads_to_vertex c = λ v w a place m. leads_to_vertex_alike v w a place m

pub returns-clause-edge_below : goal.returns-clause-edge_below
returns-clause-edge_below c = λ v w a source key place x m. edge_below_alike v w a source key place x m

pub returns-clause-before_edge : goal.returns-clause-before_edge
returns-clause-before_edge c = λ v w a source key place m. before_edge_alike v w a source key place m

pub returns-clause-edge_above : goal.returns-clause-edge_above
returns-clause-edge_above c = λ v w a source key index m. edge_above_alike v w a source key index m

pub returns-clause-edge_link : goal.returns-clause-edge_link
returns-clause-edge_link c = λ v w a source place x m. edge_link_alike v w a source place x m

pub returns-clause-leads_to_edge : goal.returns-clause-leads_to_edge
returns-clause-leads_to_edge c = λ v w a source place m. leads_to_edge_alike v w a source place m

pub returns-clause-has_no_fresh : goal.returns-clause-has_no_fresh
returns-clause-has_no_fresh c = λ v w a m. has_no_fresh_alike v w a m

pub returns-clause-target_shown : goal.returns-clause-target_shown
returns-clause-target_shown c = λ v w a x m. target_shown_alike v w a x m

pub returns-clause-retired : goal.returns-clause-retired
returns-clause-retired c = λ v w a but x stamp m. retired_alike v w a but x stamp m

pub returns-clause-spent_since : goal.returns-clause-spent_since
returns-clause-spent_since c = λ v w a. spent_since_alike v w a
