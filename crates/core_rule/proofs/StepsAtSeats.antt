-- The laws of the steps, at a seat that holds no slot.
use Rattle.std.proofs.Common.{◌≡◌, ℕ, ◌+◌, ◌%◌, ◌^◌, ◌<◌, Bool, true, false, List, [], sym, subst}
use mathlib.Core.Option.{Option, none}
use Rattle.atomic_table.specs.Table.{step, Allows}
use Rattle.graph_kinds.specs.declared.entry.Entry.{Entry}
use Rattle.packed_link.specs.Layout.{Sizes, IsLayout}
use Rattle.core_journal.specs.declared.event.Event.{Event}
use Rattle.core_rule.specs.Owes.{Owes, OwesStore}
use Rattle.core_rule.specs.Plays.{AtSeat, looking, turning, storing, drawing, replying, meeting}
use Rattle.core_rule.specs.Rule.{Ruled}
use Rattle.core_rule.proofs.StepsKeepRule.{looks, turns, stores, draws_number, replies, meets}

at_seat : (T : AtSeat → ℕ → AtSeat → Type 0) (f : ℕ → ℕ) (sizes : Sizes) (n id i : ℕ) (m : AtSeat) → m.1 ≡ []
    → m.0.sizes ≡ sizes → Allows (Ruled m.0.sizes) n id (m.0, []) i f (T (m.0, [])) → Allows (Ruled sizes) n id m i f
    (T m)
at_seat T f sizes n id i m empty same given =
    let whole : Allows (Ruled m.0.sizes) n id m i f (T m) = subst
    (λ (xs : List (ℕ × Unit {0})). Allows (Ruled m.0.sizes) n id (m.0, xs) i f (T (m.0, xs))) (sym empty) given in
    subst (λ (z : Sizes). Allows (Ruled z) n id m i f (T m)) same whole

-- a load
pub looks_at : (sizes : Sizes) (n id i : ℕ) (m : AtSeat) → m.1 ≡ [] → m.0.sizes ≡ sizes → Allows (Ruled sizes) n id m i
    (λ x. x) (looking (step n i 0 0 none) m)
looks_at sizes n id i m empty same = at_seat (looking (step n i 0 0 none)) (λ x. x) sizes n id i m empty same
    (looks n id i m.0)

-- an exchange, a mark or an add
pub turns_at : (sizes : Sizes) (n id i a b : ℕ) (said : Option (Unit {0})) (m : AtSeat) (f : ℕ → ℕ) (wins : ℕ → Bool)
    (event : ℕ → Event) → m.1 ≡ [] → m.0.sizes ≡ sizes → m.0.numbered ≡ true → Owes m.0 i f wins event
    → Allows (Ruled sizes) n id m i f (turning wins event (step n i a b said) m)
turns_at sizes n id i a b said m f wins event empty same has owes = at_seat
    (turning wins event (step n i a b said)) f sizes n id i m empty same
    (turns n id i a b said m.0 f wins event has owes)

-- a store
pub stores_at : (sizes : Sizes) (n id i a b : ℕ) (said : Option (Unit {0})) (m : AtSeat) (event : ℕ → Event) → m.1 ≡ []
    → m.0.sizes ≡ sizes → m.0.numbered ≡ true → OwesStore m.0 i a (event a)
    → Allows (Ruled sizes) n id m i (λ _. a) (λ _. storing event (step n i a b said) m a)
stores_at sizes n id i a b said m event empty same has owes =
    let whole : Allows (Ruled m.0.sizes) n id m i (λ _. a) (λ _. storing event (step n i a b said) m a) = subst
    (λ (xs : List (ℕ × Unit {0})). Allows (Ruled m.0.sizes) n id (m.0, xs) i (λ _. a)
    (λ _. storing event (step n i a b said) (m.0, xs) a)) (sym empty) (stores n id i a b said m.0 event has owes) in
    subst (λ (z : Sizes). Allows (Ruled z) n id m i (λ _. a) (λ _. storing event (step n i a b said) m a)) same whole

-- a number is drawn
pub draws_at : (sizes : Sizes) (n id a b : ℕ) (said : Option (Unit {0})) (m : AtSeat) → m.1 ≡ [] → m.0.sizes ≡ sizes
    → IsLayout m.0.sizes → m.0.draws ≡ true → m.0.numbered ≡ false → m.0.drawn < m.0.sizes.callers
    → Allows (Ruled sizes) n id m 1 (λ x. (x + 1) % 2 ^ 64) (drawing (step n 1 a b said) m)
draws_at sizes n id a b said m empty same z has new room = at_seat (drawing (step n 1 a b said))
    (λ x. (x + 1) % 2 ^ 64) sizes n id 1 m empty same (draws_number n id a b said m.0 z has new room)

-- a reply
pub replies_at : (sizes : Sizes) (n id i : ℕ) (m : AtSeat) (entry : Entry) → m.1 ≡ [] → m.0.sizes ≡ sizes → Allows
    (Ruled sizes) n id m i (λ x. x) (replying entry (step n i 0 0 none) m)
replies_at sizes n id i m entry empty same = at_seat (replying entry (step n i 0 0 none))
    (λ x. x) sizes n id i m empty same (replies n id i m.0 entry)

-- a load after a join
pub meets_at : (sizes : Sizes) (n id i : ℕ) (m : AtSeat) → m.1 ≡ [] → m.0.sizes ≡ sizes → Allows (Ruled sizes) n id m i
    (λ x. x) (meeting (step n i 0 0 none) m)
meets_at sizes n id i m empty same = at_seat (meeting (step n i 0 0 none)) (λ x. x) sizes n id i m empty same
    (meets n id i m.0)
