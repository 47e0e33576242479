-- A token that made no event, or opened its pass, has used as much as before.
use Rattle.std.proofs.Common.{◌≡◌, List, arith}
use Rattle.core_journal.specs.declared.event.Event.{Event}
use Rattle.core_journal.specs.Event.{moves, pops, raises}
use Rattle.core_rule.specs.declared.view.View.{View}
use Rattle.core_stretches.specs.Makes.{Makes, of_kinds}
use Rattle.core_stretches.proofs.MakesTell.{makes_counts}
use Rattle.table_calls.specs.Resting.{uses_of}

pub uses_stay : (v w : View) (own : List Event) → Makes v own w → of_kinds pops own ≡ 0 → of_kinds moves own ≡ 0
    → of_kinds raises own ≡ 0 → uses_of v ≡ 0 → uses_of w ≡ 0
uses_stay v w own made no_pop no_move no_raise none =
    let p = makes_counts pops v w own made in
    let m = makes_counts moves v w own made in
    let r = makes_counts raises v w own made in
    omega (arith, p, m, r, no_pop, no_move, no_raise, none)
