use Rattle.core_rule.proofs.ViewShows.{vertex_still, edge_still, key_still, dead_still, below_still, above_still}
use Rattle.core_rule.proofs.ViewShows.{edge_below_still, edge_above_still, raise_still, raised_still}
use Rattle.core_rule.proofs.ViewShows.{before_vertex_still, before_edge_still, leads_to_vertex_still}
use Rattle.core_rule.proofs.ViewShows.{leads_to_edge_still}
use Rattle.core_rule.proofs.views.a_later_view_has_met_it.Goals as goal

pub returns-clause-vertex : goal.returns-clause-vertex
returns-clause-vertex c = λ v w z g x m. vertex_still v w z g x m

pub returns-clause-edge : goal.returns-clause-edge
returns-clause-edge c = λ v w z g source x m. edge_still v w z g source x m

pub returns-clause-key : goal.returns-clause-key
returns-clause-key c = λ v w z g x there m. key_still v w z g x there m

pub returns-clause-dead : goal.returns-clause-dead
returns-clause-dead c = λ v w z g x there m dead. dead_still v w z g x there m dead

pub returns-clause-vertex_below : goal.returns-clause-vertex_below
returns-clause-vertex_below c = λ v w z g key place x b. below_still v w z g key place x b

pub returns-clause-vertex_above : goal.returns-clause-vertex_above
returns-clause-vertex_above c = λ v w z g key index b. above_still v w z g key index b

pub returns-clause-edge_below : goal.returns-clause-edge_below
returns-clause-edge_below c = λ v w z g source key place x b. edge_below_still v w z g source key place x b

pub returns-clause-edge_above : goal.returns-clause-edge_above
returns-clause-edge_above c = λ v w z g source key index b. edge_above_still v w z g source key index b

pub returns-clause-may_raise : goal.returns-clause-may_raise
returns-clause-may_raise c = λ v w z g x m few. raise_still v w z g x m few

pub returns-clause-raised : goal.returns-clause-raised
returns-clause-raised c = λ v w z g edge source r. raised_still v w z g edge source r

pub returns-clause-before_vertex : goal.returns-clause-before_vertex
returns-clause-before_vertex c = λ v w z g key place b. before_vertex_still v w z g key place b

pub returns-clause-before_edge : goal.returns-clause-before_edge
returns-clause-before_edge c = λ v w z g source key place b. before_edge_still v w z g source key place b

pub returns-clause-leads_to_vertex : goal.returns-clause-leads_to_vertex
returns-clause-leads_to_vertex c = λ v w z g place b. leads_to_vertex_still v w z g place b

pub returns-clause-leads_to_edge : goal.returns-clause-leads_to_edge
returns-clause-leads_to_edge c = λ v w z g source place b. leads_to_edge_still v w z g source place b
