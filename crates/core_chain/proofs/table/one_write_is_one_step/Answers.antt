-- A write at a word of the chain.
use Rattle.core_chain.proofs.Tables.{Inserts-in, Replaces-in, SetsMark-in, Unlinks-in}
use Rattle.core_chain.proofs.table.one_write_is_one_step.Goals as goal

pub returns-clause-insert : goal.returns-clause-insert
returns-clause-insert c = λ old new places on on' since since' at node tag kept. Inserts-in old new places on on' since
    since' kept at node tag

pub returns-clause-mark : goal.returns-clause-mark
returns-clause-mark c = λ old new places on on' since since' at kept. SetsMark-in old new places on on' since since'
    kept at

pub returns-clause-unlink : goal.returns-clause-unlink
returns-clause-unlink c = λ old new places on on' since since' at node tag kept. Unlinks-in old new places on on' since
    since' kept at node tag

pub returns-clause-replace : goal.returns-clause-replace
returns-clause-replace c = λ old new places on on' since since' node fresh tag kept. Replaces-in old new places on on'
    since since' kept node fresh tag
