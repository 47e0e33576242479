use Rattle.core_worked.proofs.WorkedTokens.{change_allowed, word_closed, new_ruled, draw_allowed, store_allowed}
use Rattle.core_worked.proofs.WorkedTokens.{last_ruled, last_whole, last_word, all_quiet}
use Rattle.core_worked.proofs.laws_tokens.worked_tables_keep_the_rule.Goals as goal

pub returns-clause-new : goal.returns-clause-new
returns-clause-new c = new_ruled

pub returns-clause-draw : goal.returns-clause-draw
returns-clause-draw c = draw_allowed

pub returns-clause-store : goal.returns-clause-store
returns-clause-store c = store_allowed

pub returns-clause-last : goal.returns-clause-last
returns-clause-last c = last_ruled

pub returns-clause-journal : goal.returns-clause-journal
returns-clause-journal c = last_whole

pub returns-clause-word : goal.returns-clause-word
returns-clause-word c = last_word

pub returns-clause-quiet : goal.returns-clause-quiet
returns-clause-quiet c = all_quiet

pub returns-clause-change : goal.returns-clause-change
returns-clause-change c = change_allowed

pub returns-clause-closed_word : goal.returns-clause-closed_word
returns-clause-closed_word c = word_closed
