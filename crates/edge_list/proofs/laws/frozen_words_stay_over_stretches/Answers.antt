use Rattle.edge_list.proofs.FrozenWords.{makes_unlinked, makes_frozen}
use Rattle.edge_list.proofs.laws.frozen_words_stay_over_stretches.Goals as goal

pub returns-clause-vertex : goal.returns-clause-vertex
returns-clause-vertex c = makes_unlinked

pub returns-clause-words : goal.returns-clause-words
returns-clause-words c = makes_frozen
