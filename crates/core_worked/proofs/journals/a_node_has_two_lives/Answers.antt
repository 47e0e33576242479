use Rattle.core_journal.specs.Worked.{small}
use Rattle.core_worked.specs.TwoLives.{two_lives}
use Rattle.core_worked.proofs.TwoLivesShown.{small_layout, kinds_stand, graph_added, graph_removed, graph_again}
use Rattle.core_worked.proofs.TwoLivesShown.{graph_gone, handed_over, fresh_again, linked_still, spent_still, freed}
use Rattle.core_worked.proofs.TwoLivesShown.{second_tag, free_last, words_last}
use Rattle.core_kept.proofs.SafeReuse.{reuses_safely}
use Rattle.core_worked.proofs.TwoLives.{two_lives_kept}
use Rattle.core_worked.proofs.journals.a_node_has_two_lives.Goals as goal

pub returns-clause-sizes : goal.returns-clause-sizes
returns-clause-sizes c = small_layout

pub returns-clause-kept : goal.returns-clause-kept
returns-clause-kept c = two_lives_kept

pub returns-clause-each_kind : goal.returns-clause-each_kind
returns-clause-each_kind c = kinds_stand

pub returns-clause-added : goal.returns-clause-added
returns-clause-added c = graph_added

pub returns-clause-removed : goal.returns-clause-removed
returns-clause-removed c = graph_removed

pub returns-clause-added_again : goal.returns-clause-added_again
returns-clause-added_again c = graph_again

pub returns-clause-gone : goal.returns-clause-gone
returns-clause-gone c = graph_gone

pub returns-clause-handed : goal.returns-clause-handed
returns-clause-handed c = handed_over

pub returns-clause-fresh : goal.returns-clause-fresh
returns-clause-fresh c = fresh_again

pub returns-clause-linked : goal.returns-clause-linked
returns-clause-linked c = linked_still

pub returns-clause-spent : goal.returns-clause-spent
returns-clause-spent c = spent_still

pub returns-clause-freed : goal.returns-clause-freed
returns-clause-freed c = freed

pub returns-clause-second : goal.returns-clause-second
returns-clause-second c = second_tag

pub returns-clause-free_list : goal.returns-clause-free_list
returns-clause-free_list c = free_last

pub returns-clause-words : goal.returns-clause-words
returns-clause-words c = words_last

pub returns-clause-reuse : goal.returns-clause-reuse
returns-clause-reuse c = reuses_safely small small_layout two_lives two_lives_kept
