-- When a number may be drawn, a pass be opened and closed, and the epoch be moved on.
use Rattle.std.specs.Prelude.{◌≡◌, ℕ, ◌+◌, ◌<◌, true, false, List}
use Rattle.packed_link.specs.Layout.{Sizes, number_at, epoch_at, announce_at}
use Rattle.core_epoch.specs.Steps.{IsFoundClear}
use Rattle.core_journal.specs.declared.event.Event.{Event}
use Rattle.core_journal.specs.Event.{no_life, moves}
use Rattle.core_journal.specs.Prefix.{IsPrefix}
use Rattle.core_journal.specs.Machine.{word_at}
use Rattle.core_journal.specs.State.{state}
use Rattle.core_journal.specs.Reuse.{pass_in}
use Rattle.core_kept.specs.Counts.{made, most_moves}
use Rattle.core_kept.specs.Moments.{clock_in}

-- a caller draws the next number, which is its own from then on, while there are some left
pub record IsDrawNumber (sizes : Sizes) (past : List Event) (e : Event) : Type 0 where
  pub life : e.life ≡ no_life
  pub there : e.caller < sizes.callers
  pub place : e.place ≡ number_at sizes
  pub word : e.word ≡ word_at sizes past (number_at sizes) + 1
  pub caller : e.caller ≡ (state sizes past).drawn

-- a caller without a pass announces an epoch that it loaded, however old
pub record IsAnnounce (sizes : Sizes) (past : List Event) (e : Event) : Type 0 where
  pub life : e.life ≡ no_life
  pub there : e.caller < sizes.callers
  pub place : e.place ≡ announce_at sizes e.caller
  pub loaded : List Event
  pub before : IsPrefix loaded past
  pub word : e.word ≡ word_at sizes loaded (epoch_at sizes) + 1
  pub closed : (pass_in sizes past e.caller).is_open ≡ false

-- a caller closes its pass
pub record IsWithdraw (sizes : Sizes) (past : List Event) (e : Event) : Type 0 where
  pub life : e.life ≡ no_life
  pub there : e.caller < sizes.callers
  pub place : e.place ≡ announce_at sizes e.caller
  pub word : e.word ≡ 0
  pub pass : (pass_in sizes past e.caller).is_open ≡ true

-- after a moment a caller's announcement was found to be 0, or one above an epoch that is at least the one seen
pub record IsChecked (sizes : Sizes) (from past : List Event) (seen caller : ℕ) : Type 0 where
  pub moment : List Event
  pub after : IsPrefix from moment
  pub before : IsPrefix moment past
  pub clear : IsFoundClear seen caller (clock_in sizes moment)

-- a caller without a pass moves the epoch on: it loaded the epoch, and after that it checked the announcement of each
-- caller
pub record IsMoveEpoch (sizes : Sizes) (past : List Event) (e : Event) : Type 0 where
  pub life : e.life ≡ no_life
  pub there : e.caller < sizes.callers
  pub place : e.place ≡ epoch_at sizes
  pub word : e.word ≡ word_at sizes past (epoch_at sizes) + 1
  pub loaded : List Event
  pub before : IsPrefix loaded past
  pub seen : word_at sizes loaded (epoch_at sizes) ≡ word_at sizes past (epoch_at sizes)
  pub checked : (i : ℕ) → i < sizes.callers → IsChecked sizes loaded past (word_at sizes past (epoch_at sizes)) i
  pub closed : (pass_in sizes past e.caller).is_open ≡ false
  pub limit : made moves e.caller past < most_moves
