-- Setting the mark's bit is marking; the rest is arithmetic.
use Rattle.std.proofs.Common.{arith}
use Rattle.packed_link.proofs.Links.{bit_or-mark}
use Rattle.packed_link.proofs.link.Link.with_mark.Goals as goal

pub returns-clause-word : goal.returns-clause-word
returns-clause-word c = bit_or-mark c.args.self.0

pub returns-clause-marked : goal.returns-clause-marked
returns-clause-marked c = omega (arith, bit_or-mark c.args.self.0)

pub returns-clause-index : goal.returns-clause-index
returns-clause-index c = omega (arith, bit_or-mark c.args.self.0)

pub returns-clause-tag : goal.returns-clause-tag
returns-clause-tag c = omega (arith, bit_or-mark c.args.self.0)

pub returns-clause-already : goal.returns-clause-already
returns-clause-already c = λ marked. omega (arith, bit_or-mark c.args.self.0)
