use Rattle.std.proofs.Common.{rules}
use mathlib.Core.Option.{none}
use Rattle.core_rule.proofs.StepsAtSeats.{stores_at}
use Rattle.graph_table.proofs.Owed.{store_inside}
use Rattle.graph_table.proofs.table.GraphTable.put.Goals as goal

pub store-requires : goal.store-requires
store-requires g c = (
  search rules,
  search rules,
  stores_at _ _ _ _ _ 0 none _ g.D.Deed.event c.token.invariant.0
      (search rules) (search rules) (store_inside _ _ _ _ _ _ c.token.view_is c.requires.owes),
)
