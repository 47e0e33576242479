use Rattle.std.proofs.Common.{rules}
use mathlib.Core.Option.{none}
use Rattle.core_rule.proofs.StepsAtSeats.{turns_at}
use Rattle.graph_table.proofs.Owed.{owes_inside}
use Rattle.graph_table.proofs.table.GraphTable.set_bits.Goals as goal

pub fetch_or-requires : goal.fetch_or-requires
fetch_or-requires g c = (
  search rules,
  search rules,
  turns_at _ _ _ _ c.args.bits 0 none _ _ _ _ c.token.invariant.0 (search rules) (search rules)
      (owes_inside _ _ _ _ _ _ _ c.token.view_is c.requires.owes),
)
