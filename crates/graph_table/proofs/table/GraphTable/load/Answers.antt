use Rattle.std.proofs.Common.{rules}
use Rattle.core_rule.proofs.StepsAtSeats.{looks_at}
use Rattle.graph_table.proofs.table.GraphTable.load.Goals as goal

pub load-requires : goal.load-requires
load-requires c = (search rules, search rules, looks_at _ _ _ _ _ c.token.invariant.0 (search rules))
