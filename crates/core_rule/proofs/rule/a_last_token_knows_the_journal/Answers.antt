use Rattle.core_rule.proofs.LastToken.{front_whole, closed_word}
use Rattle.core_rule.proofs.rule.a_last_token_knows_the_journal.Goals as goal

pub returns-clause-journal : goal.returns-clause-journal
returns-clause-journal c = λ sizes s rule id v me bare all. front_whole sizes s rule id v me bare all

pub returns-clause-word : goal.returns-clause-word
returns-clause-word c = λ sizes s rule id place x v me bare all at. closed_word sizes s rule id place x v me bare all at
