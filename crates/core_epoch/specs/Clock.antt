-- The epoch, and the pass of each caller beside it, at one moment (Fraser 2004). While its pass is open a caller holds
-- on to what it meets.
use Rattle.std.specs.Prelude.{◌≡◌, ℕ, ◌+◌, ◌<◌, ◌≤◌, Bool, true, false}

-- how many steps were made, and the epoch; of each caller whether its pass is open, the epoch at its last announcement,
-- how many steps were made before that, and its announcement word
pub record Clock : Type 0 where
  pub count : ℕ
  pub epoch : ℕ
  pub is_open : ℕ → Bool
  pub birth : ℕ → ℕ
  pub since : ℕ → ℕ
  pub word : ℕ → ℕ

-- no pass is open, and nothing is announced
pub record IsNewClock (callers : ℕ) (clock : Clock) : Type 0 where
  pub closed : (i : ℕ) → clock.is_open i ≡ false
  pub silent : (i : ℕ) → i < callers → clock.word i ≡ 0

-- an open pass: its announcement is one above an epoch that is at most that of its birth
pub record IsOpenPass (callers : ℕ) (clock : Clock) (i : ℕ) : Type 0 where
  pub there : i < callers
  pub some : 1 ≤ clock.word i
  pub old : clock.word i ≤ clock.birth i + 1
  pub born : clock.birth i ≤ clock.epoch
  pub began : clock.since i < clock.count

-- what announcements tell of passes: 0 outside a pass, and in it one above an epoch that is at most that of its birth
pub record Announcements (callers : ℕ) (clock : Clock) : Type 0 where
  pub inside : (i : ℕ) → clock.is_open i ≡ true → IsOpenPass callers clock i
  pub outside : (i : ℕ) → i < callers → clock.is_open i ≡ false → clock.word i ≡ 0

-- the epoch is at most one above that in which an open pass began
pub record IsNear (clock : Clock) : Type 0 where
  pub near : (i : ℕ) → clock.is_open i ≡ true → clock.epoch ≤ clock.birth i + 1

-- an epoch was reached, and an open pass of the caller, if any, began in it or later
pub record IsClear (seen caller : ℕ) (clock : Clock) : Type 0 where
  pub reached : seen ≤ clock.epoch
  pub born : clock.is_open caller ≡ true → seen ≤ clock.birth caller
