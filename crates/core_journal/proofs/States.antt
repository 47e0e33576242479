-- The state after one more event.
use Rattle.std.proofs.Common.{◌≡◌, ◌+◌, List, [], ◌∷◌, ◌++◌, length, refl, arith}
use Rattle.packed_link.specs.Layout.{Sizes}
use Rattle.core_journal.specs.declared.event.Kind.{Kind}
use Rattle.core_journal.specs.declared.event.Kind.TheVariants.{DrawNumber, PopFree, StorePrivate, LinkVertex}
use Rattle.core_journal.specs.declared.event.Kind.TheVariants.{MarkVertex, UnlinkVertex, LinkEdge, Raise, MarkEdge}
use Rattle.core_journal.specs.declared.event.Kind.TheVariants.{UnlinkEdge, ReplaceEdge, Announce, Withdraw, MoveEpoch}
use Rattle.core_journal.specs.declared.event.Kind.TheVariants.{FreezeHead, FreezeEdge, StoreFree, PushFree}
use Rattle.core_journal.specs.declared.event.Event.{Event}
use Rattle.core_journal.specs.State.{State, state_by, opening, state_from, state}

from-append : (sizes : Sizes) (s : State) (xs ys : List Event) → state_from sizes s (xs ++ ys) ≡ state_from sizes
    (state_from sizes s xs) ys
from-append sizes s [] ys = refl
from-append sizes s (e ∷ es) ys = from-append sizes (state_by e.kind sizes e s) es ys

-- the state of the empty journal
pub state-nil : (sizes : Sizes) → state sizes [] ≡ opening sizes
unfolding state
state-nil sizes = refl

-- one more event changes the state as its kind says
pub state-snoc : (sizes : Sizes) (journal : List Event) (e : Event) → state sizes
    (journal ++ e ∷ []) ≡ state_by e.kind sizes e (state sizes journal)
unfolding state
state-snoc sizes journal e = from-append sizes (opening sizes) journal (e ∷ [])

pub counted_by : (k : Kind) (sizes : Sizes) (e : Event) (s : State) → (state_by k sizes e s).count ≡ s.count + 1
counted_by DrawNumber sizes e s = refl
counted_by PopFree sizes e s = refl
counted_by StorePrivate sizes e s = refl
counted_by LinkVertex sizes e s = refl
counted_by MarkVertex sizes e s = refl
counted_by UnlinkVertex sizes e s = refl
counted_by LinkEdge sizes e s = refl
counted_by Raise sizes e s = refl
counted_by MarkEdge sizes e s = refl
counted_by UnlinkEdge sizes e s = refl
counted_by ReplaceEdge sizes e s = refl
counted_by Announce sizes e s = refl
counted_by Withdraw sizes e s = refl
counted_by MoveEpoch sizes e s = refl
counted_by FreezeHead sizes e s = refl
counted_by FreezeEdge sizes e s = refl
counted_by StoreFree sizes e s = refl
counted_by PushFree sizes e s = refl

count_from : (sizes : Sizes) (s : State) (es : List Event) → (state_from sizes s es).count ≡ s.count + length es
count_from sizes s [] = omega arith
count_from sizes s (e ∷ es) = omega (
  arith,
  count_from sizes (state_by e.kind sizes e s) es,
  counted_by e.kind sizes e
      s,
)

-- the count is the number of events
pub count-length : (sizes : Sizes) (journal : List Event) → (state sizes journal).count ≡ length journal
unfolding state
count-length sizes journal = omega (arith, count_from sizes (opening sizes) journal)
