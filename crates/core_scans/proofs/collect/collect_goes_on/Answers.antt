use Rattle.core_scans.proofs.RowSteps.{between_first, between_later, within_later, row_started, within_done}
use Rattle.core_scans.proofs.RowSteps.{between_done}
use Rattle.core_scans.proofs.EdgeSteps.{edge_recorded, edge_passed}
use Rattle.core_scans.proofs.collect.collect_goes_on.Goals as goal

pub returns-clause-first : goal.returns-clause-first
returns-clause-first c = between_first

pub returns-clause-between_later : goal.returns-clause-between_later
returns-clause-between_later c = between_later

pub returns-clause-within_later : goal.returns-clause-within_later
returns-clause-within_later c = within_later

pub returns-clause-row : goal.returns-clause-row
returns-clause-row c = row_started

pub returns-clause-edge : goal.returns-clause-edge
returns-clause-edge c = edge_recorded

pub returns-clause-passed : goal.returns-clause-passed
returns-clause-passed c = edge_passed

pub returns-clause-row_done : goal.returns-clause-row_done
returns-clause-row_done c = within_done

pub returns-clause-done : goal.returns-clause-done
returns-clause-done c = between_done
