use Rattle.std.proofs.Common.{arith, refl, []}
use Rattle.scan_rows.proofs.UsesStay.{uses_stay}
use Rattle.scan_rows.proofs.changing.mark_edge.Goals as goal

pub remove-requires-clause-limit : goal.remove-requires-clause-limit
remove-requires-clause-limit c =
    let none = uses_stay c.args.token.now.view c.find_root.new.token.view [] c.find_root.ensures.makes refl refl refl
    c.requires.uses in
    omega (arith, none)
