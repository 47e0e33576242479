use Rattle.core_journal.specs.Worked.{small}
use Rattle.core_worked.specs.Replacing.{replacing_journal}
use Rattle.core_worked.proofs.TwoLivesShown.{small_layout}
use Rattle.core_worked.proofs.Replacing.{replacing_kept}
use Rattle.core_worked.proofs.ReplacingBooks.{replacing_interleaves, replacing_regular, replacing_apart, replacing_true}
use Rattle.core_worked.proofs.ReplacingBooks.{replacing_closed, replacing_items, replacing_legal}
use Rattle.core_worked.proofs.ReplacingShown.{replacing_kinds, graph_once, graph_twice, graph_then, graph_anew}
use Rattle.core_worked.proofs.ReplacingShown.{graph_replaced, graph_end, list_twice, list_end, marked_twice}
use Rattle.core_worked.proofs.ReplacingShown.{handed_head, handed_last, given_back, free_end, words_end}
use Rattle.core_kept.proofs.SafeReuse.{reuses_safely}
use Rattle.core_worked.proofs.replacements.an_edge_is_replaced.Goals as goal

pub returns-clause-kept : goal.returns-clause-kept
returns-clause-kept c = replacing_kept

pub returns-clause-each_kind : goal.returns-clause-each_kind
returns-clause-each_kind c = replacing_kinds

pub returns-clause-once : goal.returns-clause-once
returns-clause-once c = graph_once

pub returns-clause-twice : goal.returns-clause-twice
returns-clause-twice c = graph_twice

pub returns-clause-removed : goal.returns-clause-removed
returns-clause-removed c = graph_then

pub returns-clause-added_anew : goal.returns-clause-added_anew
returns-clause-added_anew c = graph_anew

pub returns-clause-replaced_anew : goal.returns-clause-replaced_anew
returns-clause-replaced_anew c = graph_replaced

pub returns-clause-gone : goal.returns-clause-gone
returns-clause-gone c = graph_end

pub returns-clause-list : goal.returns-clause-list
returns-clause-list c = list_twice

pub returns-clause-marked : goal.returns-clause-marked
returns-clause-marked c = marked_twice

pub returns-clause-handed : goal.returns-clause-handed
returns-clause-handed c = handed_head

pub returns-clause-frozen : goal.returns-clause-frozen
returns-clause-frozen c = handed_last

pub returns-clause-list_then : goal.returns-clause-list_then
returns-clause-list_then c = list_end

pub returns-clause-freed : goal.returns-clause-freed
returns-clause-freed c = given_back

pub returns-clause-free_list : goal.returns-clause-free_list
returns-clause-free_list c = free_end

pub returns-clause-words : goal.returns-clause-words
returns-clause-words c = words_end

pub returns-clause-reuse : goal.returns-clause-reuse
returns-clause-reuse c = reuses_safely small small_layout replacing_journal replacing_kept

pub returns-clause-regular : goal.returns-clause-regular
returns-clause-regular c = replacing_regular

pub returns-clause-apart : goal.returns-clause-apart
returns-clause-apart c = replacing_apart

pub returns-clause-books : goal.returns-clause-books
returns-clause-books c = replacing_true

pub returns-clause-closed : goal.returns-clause-closed
returns-clause-closed c = replacing_closed

pub returns-clause-history : goal.returns-clause-history
returns-clause-history c = replacing_items

pub returns-clause-legal : goal.returns-clause-legal
returns-clause-legal c = replacing_legal

pub returns-clause-interleaves : goal.returns-clause-interleaves
returns-clause-interleaves c = replacing_interleaves
