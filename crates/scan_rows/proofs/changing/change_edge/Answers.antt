use Rattle.std.proofs.Common.{arith, refl, []}
use Rattle.core_stretches.proofs.HoldingsStay.{makes_none}
use Rattle.scan_rows.proofs.UsesStay.{uses_stay}
use Rattle.scan_rows.proofs.changing.change_edge.Goals as goal

pub change-requires-clause-none : goal.change-requires-clause-none
change-requires-clause-none c = makes_none c.args.token.now.view c.find_root.new.token.view []
    c.requires.table.layout tt c.find_root.ensures.makes c.requires.resting.bare

pub change-requires-clause-limit : goal.change-requires-clause-limit
change-requires-clause-limit c =
    let none = uses_stay c.args.token.now.view c.find_root.new.token.view [] c.find_root.ensures.makes refl refl refl
    c.requires.uses in
    omega (arith, none)

pub change-requires-clause-raises : goal.change-requires-clause-raises
change-requires-clause-raises c =
    let none = uses_stay c.args.token.now.view c.find_root.new.token.view [] c.find_root.ensures.makes refl refl refl
    c.requires.uses in
    omega (arith, none)
