use Rattle.core_rule.proofs.LastToken.{front_of_callers, word_of_callers, accounts_quiet}
use Rattle.core_rule.proofs.rule.a_token_of_all_callers_knows_the_journal.Goals as goal

pub returns-clause-journal : goal.returns-clause-journal
returns-clause-journal c = λ sizes s rule seat v me bare same all. front_of_callers sizes s rule seat v me bare same all

pub returns-clause-word : goal.returns-clause-word
returns-clause-word c = λ sizes s rule seat place word v me bare same all at. word_of_callers sizes s rule seat place
    word v me bare same all at

pub returns-clause-quiet : goal.returns-clause-quiet
returns-clause-quiet c = λ v s. accounts_quiet v s
