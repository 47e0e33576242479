-- A write elsewhere.
use Rattle.core_chain.proofs.Tables.{Untouched-in}
use Rattle.core_chain.proofs.table.other_chains_stay.Goals as goal

pub returns : goal.returns
returns c = λ old new places on on' since since' place word kept. Untouched-in old new places on on' since since' kept
    place word
