use Rattle.core_journal.proofs.ForeignAddsUp.{adds_up, longer_same, one_foreign, foreign_found}
use Rattle.core_journal.proofs.foreign.foreign_events_add_up.Goals as goal

pub returns-clause-adds : goal.returns-clause-adds
returns-clause-adds c = λ journal caller a b d low high. adds_up journal caller a b d low high

pub returns-clause-same : goal.returns-clause-same
returns-clause-same c = λ front journal p caller start end low. longer_same front journal p caller start end low

pub returns-clause-one : goal.returns-clause-one
returns-clause-one c = λ journal caller start end p e since until at counts other. one_foreign journal caller start end
    p e since until at counts other

pub returns-clause-found : goal.returns-clause-found
returns-clause-found c = λ journal caller start end h. foreign_found journal caller start end h
