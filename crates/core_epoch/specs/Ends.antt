-- Where the lives of nodes ended, beside the passes that were open then.
use Rattle.std.specs.Prelude.{◌≡◌, ℕ, ◌+◌, ◌<◌, ◌≤◌, ◌⊎◌, Bool, true, false}
use Rattle.core_epoch.specs.Clock.{Clock, IsNewClock, Announcements, IsNear}
use Rattle.core_epoch.specs.Steps.{ClockStep, MovesClear}

-- of each node where a life of it last ended, as the number of steps up to that end, the epoch then, and whether it is
-- spent: its life ended, and it isn't given back
pub record Ends : Type 0 where
  pub ended : ℕ → ℕ
  pub epoch : ℕ → ℕ
  pub is_spent : ℕ → Bool

-- no life ended in the future
pub record Ended (clock : Clock) (ends : Ends) : Type 0 where
  pub epoch : (x : ℕ) → ends.epoch x ≤ clock.epoch
  pub ended : (x : ℕ) → ends.ended x ≤ clock.count

-- the ends of lives beside open passes: a life that ended after a pass began ended in its first epoch or later, and a
-- node that isn't spent had its last end before each open pass began
pub record Ordered (clock : Clock) (ends : Ends) : Type 0 where
  pub later : (i x : ℕ) → clock.is_open i ≡ true → clock.since i < ends.ended x → clock.birth i ≤ ends.epoch x
  pub unspent : (i x : ℕ) → clock.is_open i ≡ true → ends.is_spent x ≡ false → ends.ended x ≤ clock.since i

-- where the lives of a node last ended stays
pub record KeepsEnd (old new : Ends) (x : ℕ) : Type 0 where
  pub ended : new.ended x ≡ old.ended x
  pub epoch : new.epoch x ≡ old.epoch x

-- a life of a node ends in this step
pub record EndsNow (clock : Clock) (new : Ends) (x : ℕ) : Type 0 where
  pub ended : new.ended x ≡ clock.count + 1
  pub epoch : new.epoch x ≡ clock.epoch
  pub spent : new.is_spent x ≡ true

-- in a step lives of some nodes end
abbrev pub EndsSome : Clock → Ends → Ends → Type 0
EndsSome clock old new = (x : ℕ) → KeepsEnd old new x ⊎ EndsNow clock new x

-- a spent node is given back only where the epoch is at least two above that of its end
abbrev pub GivesOld : Clock → Ends → Ends → Type 0
GivesOld clock old new = (x : ℕ) → old.is_spent x ≡ true → new.is_spent x ≡ false → old.epoch x + 2 ≤ clock.epoch

-- a clock with the ends of lives beside it
pub record Moment : Type 0 where
  pub clock : Clock
  pub ends : Ends

-- at the first moment no pass is open, and no life ended in the future
pub record IsNewMoment (callers : ℕ) (m : Moment) : Type 0 where
  pub clock : IsNewClock callers m.clock
  pub ends : Ended m.clock m.ends

-- any step that the epoch allows
pub record Follows (callers : ℕ) (old new : Moment) : Type 0 where
  pub step : ClockStep callers old.clock new.clock
  pub moves : MovesClear callers old.clock new.clock
  pub ends : EndsSome old.clock old.ends new.ends
  pub gives : GivesOld old.clock old.ends new.ends

-- what each such step keeps: announcements tell passes, the epoch is near each open pass, no life ended in the future,
-- and ends stand in order beside open passes
pub record IsSafe (callers : ℕ) (m : Moment) : Type 0 where
  pub announcements : Announcements callers m.clock
  pub near : IsNear m.clock
  pub ended : Ended m.clock m.ends
  pub ordered : Ordered m.clock m.ends
