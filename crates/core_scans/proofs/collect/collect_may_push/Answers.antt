use Rattle.core_scans.proofs.EdgeSteps.{edge_met}
use Rattle.core_scans.proofs.AliveIsMet.{alive_met}
use Rattle.core_scans.proofs.PushesKeepRows.{none_of_index}
use Rattle.core_scans.proofs.RoomInScan.{room_for_row, room_for_edge}
use Rattle.core_scans.proofs.WalkMeetsOnce.{few_steps}
use Rattle.core_scans.proofs.collect.collect_may_push.Goals as goal

pub returns-clause-edge : goal.returns-clause-edge
returns-clause-edge c = edge_met

pub returns-clause-alive : goal.returns-clause-alive
returns-clause-alive c = alive_met

pub returns-clause-absent : goal.returns-clause-absent
returns-clause-absent c = none_of_index

pub returns-clause-row_room : goal.returns-clause-row_room
returns-clause-row_room c = room_for_row

pub returns-clause-edge_room : goal.returns-clause-edge_room
returns-clause-edge_room c = λ v z start s looks is at steps h some.
    room_for_edge v z start s looks.kept looks.quiet looks.opened is at steps h some

pub returns-clause-steps : goal.returns-clause-steps
returns-clause-steps c = few_steps
