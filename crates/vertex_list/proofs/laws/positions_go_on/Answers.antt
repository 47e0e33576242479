use Rattle.vertex_list.proofs.PositionsGoOn.{position_makes, gap_makes, dead_makes, place_apart, position_leads}
use Rattle.vertex_list.proofs.laws.positions_go_on.Goals as goal

pub returns-clause-position : goal.returns-clause-position
returns-clause-position c = position_makes

pub returns-clause-gap : goal.returns-clause-gap
returns-clause-gap c = gap_makes

pub returns-clause-dead : goal.returns-clause-dead
returns-clause-dead c = dead_makes

pub returns-clause-apart : goal.returns-clause-apart
returns-clause-apart c = place_apart

pub returns-clause-leads : goal.returns-clause-leads
returns-clause-leads c = position_leads
