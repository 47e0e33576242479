use Rattle.core_journal.proofs.WorkedWords.{words_second, tag_second, ended_second, since_second}
use Rattle.core_journal.proofs.WorkedReuse.{second_reuse}
use Rattle.core_journal.proofs.worked.a_second_life_is_safe.Goals as goal

pub returns-clause-words : goal.returns-clause-words
returns-clause-words c = words_second

pub returns-clause-node : goal.returns-clause-node
returns-clause-node c = tag_second

pub returns-clause-ended : goal.returns-clause-ended
returns-clause-ended c = ended_second

pub returns-clause-pass : goal.returns-clause-pass
returns-clause-pass c = since_second

pub returns-clause-reuse : goal.returns-clause-reuse
returns-clause-reuse c = second_reuse
