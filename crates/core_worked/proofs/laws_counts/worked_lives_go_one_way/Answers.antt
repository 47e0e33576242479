use Rattle.core_journal.specs.Worked.{small, first_life}
use Rattle.core_counts.proofs.LivesGoOneWay.{one_way}
use Rattle.core_worked.specs.TwoLives.{two_lives}
use Rattle.core_worked.proofs.TwoLives.{two_lives_kept}
use Rattle.core_worked.proofs.TwoLivesShown.{small_layout}
use Rattle.core_worked.proofs.WorkedCounts.{links_few, marks_few}
use Rattle.core_worked.proofs.laws_counts.worked_lives_go_one_way.Goals as goal

pub returns-clause-vertex : goal.returns-clause-vertex
returns-clause-vertex c = one_way small small_layout two_lives two_lives_kept (first_life 0)

pub returns-clause-edge : goal.returns-clause-edge
returns-clause-edge c = one_way small small_layout two_lives two_lives_kept (first_life 2)

pub returns-clause-linked : goal.returns-clause-linked
returns-clause-linked c = links_few

pub returns-clause-marked : goal.returns-clause-marked
returns-clause-marked c = marks_few
