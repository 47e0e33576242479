use Rattle.core_worked.proofs.WorkedKept.{ends_of_edge, vertex_is_new, edge_is_new, replacing_is_new}
use Rattle.core_worked.proofs.WorkedKept.{frozen_is_of_marked, was_free, second_life, same_link, linked_still}
use Rattle.core_worked.proofs.WorkedKept.{link_of_spent, link_stays, head_stays, epoch_rises}
use Rattle.core_worked.proofs.laws_kept.worked_words_tell_the_state.Goals as goal

pub returns-clause-ends : goal.returns-clause-ends
returns-clause-ends c = ends_of_edge

pub returns-clause-new_vertex : goal.returns-clause-new_vertex
returns-clause-new_vertex c = vertex_is_new

pub returns-clause-new_edge : goal.returns-clause-new_edge
returns-clause-new_edge c = edge_is_new

pub returns-clause-replacing : goal.returns-clause-replacing
returns-clause-replacing c = replacing_is_new

pub returns-clause-frozen : goal.returns-clause-frozen
returns-clause-frozen c = frozen_is_of_marked

pub returns-clause-free : goal.returns-clause-free
returns-clause-free c = was_free

pub returns-clause-next_life : goal.returns-clause-next_life
returns-clause-next_life c = second_life

pub returns-clause-again : goal.returns-clause-again
returns-clause-again c = same_link

pub returns-clause-linked : goal.returns-clause-linked
returns-clause-linked c = linked_still

pub returns-clause-life : goal.returns-clause-life
returns-clause-life c = link_of_spent

pub returns-clause-link : goal.returns-clause-link
returns-clause-link c = link_stays

pub returns-clause-head : goal.returns-clause-head
returns-clause-head c = head_stays

pub returns-clause-rises : goal.returns-clause-rises
returns-clause-rises c = epoch_rises
