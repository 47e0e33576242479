use Rattle.std.proofs.Common.{rules}
use Rattle.core_rule.proofs.StepsKeepRule.{splits}
use Rattle.graph_table.proofs.table.GraphTable.split_token.Goals as goal

pub split_seat-seat-requires : goal.split_seat-seat-requires
split_seat-seat-requires c = (search rules, search rules, splits _ _ _)
