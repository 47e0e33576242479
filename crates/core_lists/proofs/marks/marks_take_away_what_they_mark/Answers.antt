use Rattle.core_lists.proofs.MarksTakeAway.{mark_gone, pair_cut}
use Rattle.core_lists.proofs.marks.marks_take_away_what_they_mark.Goals as goal

pub returns-clause-vertex : goal.returns-clause-vertex
returns-clause-vertex c = λ sizes z journal kept x m key h is. mark_gone sizes z journal kept x m key h is

pub returns-clause-edge : goal.returns-clause-edge
returns-clause-edge c = λ sizes z journal kept x m link a b cut is from to. pair_cut sizes z journal kept x m link a b
    cut is from to
