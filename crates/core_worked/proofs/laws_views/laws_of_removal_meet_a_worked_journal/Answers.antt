use Rattle.core_worked.proofs.LawSteps.{whole_list, freezing_leaves, edge_stays_behind, retired_behind, room_at_44}
use Rattle.core_worked.proofs.LawSteps.{numbers_counted, closing_ruled, closing_whole}
use Rattle.core_worked.proofs.laws_views.laws_of_removal_meet_a_worked_journal.Goals as goal

pub returns-clause-path : goal.returns-clause-path
returns-clause-path c = whole_list

pub returns-clause-leaves : goal.returns-clause-leaves
returns-clause-leaves c = freezing_leaves

pub returns-clause-behind : goal.returns-clause-behind
returns-clause-behind c = edge_stays_behind

pub returns-clause-retired : goal.returns-clause-retired
returns-clause-retired c = retired_behind

pub returns-clause-count : goal.returns-clause-count
returns-clause-count c = numbers_counted

pub returns-clause-ruled : goal.returns-clause-ruled
returns-clause-ruled c = closing_ruled

pub returns-clause-closing : goal.returns-clause-closing
returns-clause-closing c = closing_whole

pub returns-clause-room : goal.returns-clause-room
returns-clause-room c = room_at_44
