use Rattle.std.proofs.Common.{rules}
use mathlib.Core.Option.{none}
use Rattle.core_rule.proofs.StepsAtSeats.{draws_at}
use Rattle.graph_table.proofs.table.GraphTable.draw_number.Goals as goal

pub fetch_add-number-requires : goal.fetch_add-number-requires
fetch_add-number-requires c = (
  search rules,
  search rules,
  draws_at _ _ _ 1 0 none _ c.token.invariant.0 (search rules)
      (search rules) (search rules) (search rules) (search rules),
)
