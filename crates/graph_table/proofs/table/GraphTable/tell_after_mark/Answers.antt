use Rattle.std.proofs.Common.{rules}
use Rattle.core_rule.proofs.StepsAtSeats.{replies_at}
use Rattle.graph_table.proofs.table.GraphTable.tell_after_mark.Goals as goal

pub load-requires : goal.load-requires
load-requires g c = (search rules, search rules, replies_at _ _ _ _ _ _ c.token.invariant.0 (search rules))
