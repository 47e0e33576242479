use Rattle.core_rule.proofs.ShownTargets.{head_marked, target_shown, edge_words_still}
use Rattle.core_rule.proofs.words.second_words_tell.Goals as goal

pub returns-clause-head : goal.returns-clause-head
returns-clause-head c = λ v z kept x m dead. head_marked v z kept x m dead

pub returns-clause-target : goal.returns-clause-target
returns-clause-target c = λ v z kept source x m. target_shown v z kept source x m

pub returns-clause-later : goal.returns-clause-later
returns-clause-later c = λ v w z g source x m. edge_words_still v w z g source x m
