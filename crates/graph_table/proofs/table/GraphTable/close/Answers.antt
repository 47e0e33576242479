use Rattle.std.proofs.Common.{arith}
use Rattle.core_rule.proofs.LastToken.{accounts_quiet}
use Rattle.graph_table.proofs.table.GraphTable.close.Goals as goal

pub free-requires : goal.free-requires
free-requires c k h = absurd (omega (arith, c.close_with-closed.ensures.counts.1, c.self.invariant.2))

pub returns : goal.returns
returns c = record { whole = record { quiet = accounts_quiet c.args.token.view c.requires.table.sound } }
