use Rattle.edge_list.proofs.EdgePositionsGoOn.{edge_place_apart, edge_place_not_free, edge_place_not_third}
use Rattle.edge_list.proofs.EdgePositionsGoOn.{edge_place_not_vertex, edge_place_not_head, edge_place_not_other}
use Rattle.edge_list.proofs.laws.edge_positions_stand_apart.Goals as goal

pub returns-clause-fresh : goal.returns-clause-fresh
returns-clause-fresh c = edge_place_apart

pub returns-clause-free : goal.returns-clause-free
returns-clause-free c = edge_place_not_free

pub returns-clause-third : goal.returns-clause-third
returns-clause-third c = edge_place_not_third

pub returns-clause-vertex : goal.returns-clause-vertex
returns-clause-vertex c = edge_place_not_vertex

pub returns-clause-head : goal.returns-clause-head
returns-clause-head c = edge_place_not_head

pub returns-clause-edge : goal.returns-clause-edge
returns-clause-edge c = edge_place_not_other
