use Rattle.edge_list.proofs.EdgePositionsGoOn.{edge_position_makes, edge_gap_makes, dead_edge_makes, edge_position_from}
use Rattle.edge_list.proofs.EdgePositionsGoOn.{edge_position_leads}
use Rattle.edge_list.proofs.laws.edge_positions_go_on.Goals as goal

pub returns-clause-position : goal.returns-clause-position
returns-clause-position c = edge_position_makes

pub returns-clause-gap : goal.returns-clause-gap
returns-clause-gap c = edge_gap_makes

pub returns-clause-dead : goal.returns-clause-dead
returns-clause-dead c = dead_edge_makes

pub returns-clause-source : goal.returns-clause-source
returns-clause-source c = edge_position_from

pub returns-clause-leads : goal.returns-clause-leads
returns-clause-leads c = edge_position_leads
