use Rattle.core_worked.proofs.WorkedTokens.{word_beyond, word_still, raises_still, spent_behind, words_behind}
use Rattle.core_worked.proofs.WorkedTokens.{ripe_later, end_later, part_behind, end_behind, head_marked_behind}
use Rattle.core_worked.proofs.WorkedTokens.{head_frozen, edge_frozen, found_spent, raised_for_linked}
use Rattle.core_worked.proofs.LawSteps.{keeps_44}
use Rattle.core_worked.proofs.laws_tokens.worked_own_things_stay.Goals as goal

pub returns-clause-frozen_word : goal.returns-clause-frozen_word
returns-clause-frozen_word c = word_still

pub returns-clause-counts : goal.returns-clause-counts
returns-clause-counts c = raises_still

pub returns-clause-spent : goal.returns-clause-spent
returns-clause-spent c = spent_behind

pub returns-clause-words : goal.returns-clause-words
returns-clause-words c = words_behind

pub returns-clause-ripe : goal.returns-clause-ripe
returns-clause-ripe c = ripe_later

pub returns-clause-finished : goal.returns-clause-finished
returns-clause-finished c = end_later

pub returns-clause-next : goal.returns-clause-next
returns-clause-next c = part_behind

pub returns-clause-end : goal.returns-clause-end
returns-clause-end c = end_behind

pub returns-clause-marked : goal.returns-clause-marked
returns-clause-marked c = head_marked_behind

pub returns-clause-head : goal.returns-clause-head
returns-clause-head c = head_frozen

pub returns-clause-edge : goal.returns-clause-edge
returns-clause-edge c = edge_frozen

pub returns-clause-found : goal.returns-clause-found
returns-clause-found c = found_spent

pub returns-clause-raised : goal.returns-clause-raised
returns-clause-raised c = raised_for_linked

pub returns-clause-list : goal.returns-clause-list
returns-clause-list c = keeps_44

pub returns-clause-others : goal.returns-clause-others
returns-clause-others c = word_beyond
