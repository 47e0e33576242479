-- The steps of the clock: a caller opens or closes its pass, or the epoch moves on.
use Rattle.std.specs.Prelude.{◌≡◌, ◌≢◌, ℕ, ◌+◌, ◌<◌, ◌≤◌, ◌⊎◌, true, false}
use Rattle.core_epoch.specs.Clock.{Clock, IsClear}

-- a caller's pass stays, and its announcement
pub record KeepsPass (callers : ℕ) (old new : Clock) (i : ℕ) : Type 0 where
  pub is_open : new.is_open i ≡ old.is_open i
  pub birth : new.birth i ≡ old.birth i
  pub since : new.since i ≡ old.since i
  pub word : i < callers → new.word i ≡ old.word i

-- a caller without a pass announces an epoch that was reached by then, however old it is
pub record Announces (callers : ℕ) (old new : Clock) (caller loaded : ℕ) : Type 0 where
  pub there : caller < callers
  pub closed : old.is_open caller ≡ false
  pub reached : loaded ≤ old.epoch
  pub opens : new.is_open caller ≡ true
  pub birth : new.birth caller ≡ old.epoch
  pub since : new.since caller ≡ old.count
  pub word : new.word caller ≡ loaded + 1
  pub others : (i : ℕ) → i ≢ caller → KeepsPass callers old new i
  pub epoch : new.epoch ≡ old.epoch
  pub count : new.count ≡ old.count + 1

-- a caller closes its pass
pub record Withdraws (callers : ℕ) (old new : Clock) (caller : ℕ) : Type 0 where
  pub there : caller < callers
  pub open_before : old.is_open caller ≡ true
  pub closes : new.is_open caller ≡ false
  pub word : new.word caller ≡ 0
  pub others : (i : ℕ) → i ≢ caller → KeepsPass callers old new i
  pub epoch : new.epoch ≡ old.epoch
  pub count : new.count ≡ old.count + 1

-- the epoch moves on by one
pub record Moves (callers : ℕ) (old new : Clock) : Type 0 where
  pub passes : (i : ℕ) → KeepsPass callers old new i
  pub epoch : new.epoch ≡ old.epoch + 1
  pub count : new.count ≡ old.count + 1

-- a step of another kind
pub record Rests (callers : ℕ) (old new : Clock) : Type 0 where
  pub passes : (i : ℕ) → KeepsPass callers old new i
  pub epoch : new.epoch ≡ old.epoch
  pub count : new.count ≡ old.count + 1

-- any step
pub data ClockStep (callers : ℕ) (old new : Clock) : Type 0 where
  announce : (caller loaded : ℕ) → Announces callers old new caller loaded → ClockStep callers old new
  withdraw : (caller : ℕ) → Withdraws callers old new caller → ClockStep callers old new
  move : Moves callers old new → ClockStep callers old new
  rest : Rests callers old new → ClockStep callers old new

-- the epoch moves on only where each caller is clear of it
abbrev pub MovesClear : ℕ → Clock → Clock → Type 0
MovesClear callers old new = old.epoch < new.epoch → (i : ℕ) → i < callers → IsClear old.epoch i old

-- an announcement is 0, or one above an epoch that is at least the one seen
abbrev pub IsFoundClear : ℕ → ℕ → Clock → Type 0
IsFoundClear seen caller clock = (clock.word caller ≡ 0) ⊎ (seen + 1 ≤ clock.word caller)
