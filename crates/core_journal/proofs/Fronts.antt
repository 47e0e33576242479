-- What holds of a journal holds of its fronts, and what a front shows holds of the journal.
use Rattle.std.proofs.Common.{List, ◌++◌, sym, subst, arith}
use Rattle.packed_link.specs.Layout.{Sizes}
use Rattle.core_journal.specs.declared.event.Event.{Event}
use Rattle.core_journal.specs.Prefix.{IsPrefix}
use Rattle.core_journal.specs.GraphOf.{IsRegular}
use Rattle.core_journal.specs.Reuse.{IsOver, ReusesSafely}
use Rattle.core_journal.proofs.Lists.{get_front, get_short, take_front}
use Rattle.core_journal.proofs.Onward.{regular_front}

-- what stays in a longer journal stays from a front on
pub onward : (P : List Event → Type 0) → ((past more : List Event) → P past → P (past ++ more)) →
    (front journal : List Event) → IsPrefix front journal → P front → P journal
onward P more front journal p h = subst P p.whole (more front p.rest h)

-- a front of a regular journal is regular
pub regular_prefix : (front journal : List Event) → IsPrefix front journal → IsRegular journal → IsRegular front
regular_prefix front journal p r = regular_front front p.rest (subst IsRegular (sym p.whole) r)

reuse_front : (sizes : Sizes) (front rest : List Event) → ReusesSafely sizes (front ++ rest) → ReusesSafely sizes front
reuse_front sizes front rest r = record {
  each = λ q e at kind k earlier less was pop same.
      subst (λ (l : List Event). IsOver sizes l earlier.life)
      (take_front front rest q (let h = get_short front q e at in omega (arith, h)))
      (r.each q e (get_front front rest q e at) kind k earlier less (get_front front rest k earlier was) pop same);
}

-- a front of a journal that reuses safely does so
pub reuse_prefix : (sizes : Sizes) (front journal : List Event) → IsPrefix front journal → ReusesSafely sizes journal
    → ReusesSafely sizes front
reuse_prefix sizes front journal p r = reuse_front sizes front p.rest (subst (ReusesSafely sizes) (sym p.whole) r)
