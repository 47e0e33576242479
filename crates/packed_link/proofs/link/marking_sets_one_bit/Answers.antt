-- Setting the mark's bit is marking.
use Rattle.packed_link.proofs.Links.{bit_or-mark}
use Rattle.packed_link.proofs.link.marking_sets_one_bit.Goals as goal

pub returns-clause-fetch_or : goal.returns-clause-fetch_or
returns-clause-fetch_or c = bit_or-mark
