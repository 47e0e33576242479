use Rattle.core_journal.proofs.Lists.{prefix_trans}
use Rattle.core_lists.proofs.ChangedByAnother.{free_changed, bucket_changed, node_changed, change_counts, met_between}
use Rattle.core_lists.proofs.changed.a_changed_word_was_changed_by_another.Goals as goal

pub returns-clause-free : goal.returns-clause-free
returns-clause-free c = λ sizes front journal q kept caller none ne. free_changed sizes front journal q kept caller none
    ne

pub returns-clause-bucket : goal.returns-clause-bucket
returns-clause-bucket c = λ sizes front journal q kept caller j low none ne. bucket_changed sizes front journal q kept
    caller j low none ne

pub returns-clause-node : goal.returns-clause-node
returns-clause-node c = λ sizes z front journal q kept caller opened same x field low m none ne. node_changed sizes
    front journal q kept caller z opened same x field low m none ne

pub returns-clause-counts : goal.returns-clause-counts
returns-clause-counts c = λ front journal caller place h. change_counts front journal caller place h

pub returns-clause-met : goal.returns-clause-met
returns-clause-met c = λ sizes z front middle journal p r kept caller opened same x m. met_between sizes front journal
    (prefix_trans front middle journal p r) kept caller z opened same middle p r x m
