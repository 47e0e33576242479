use Rattle.std.proofs.Common.{rules}
use Rattle.core_rule.proofs.StepsAtSeats.{meets_at}
use Rattle.graph_table.proofs.table.GraphTable.meet.Goals as goal

pub load-requires : goal.load-requires
load-requires c = (search rules, search rules, meets_at _ _ _ _ _ (search rules) (search rules))
