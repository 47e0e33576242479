-- What moving the epoch on tells.
use Rattle.std.specs.Prelude.{◌≢◌, ℕ, ◌<◌, ◌≤◌, List, [], ◌∷◌}
use Rattle.packed_link.specs.Layout.{announce_at, epoch_at}
use Rattle.core_journal.specs.declared.event.Event.{Event}
use Rattle.core_journal.specs.Machine.{word_at}
use Rattle.core_kept.specs.Passes.{IsChecked}
use Rattle.core_rule.specs.OwnEvents.{move_event}
use Rattle.core_rule.specs.declared.view.View.{View}
use Rattle.core_stretches.specs.Makes.{Makes}
use Rattle.core_stretches.specs.Moments.{HoldsBetween, EndsBy}
use Rattle.epoch_limbo.specs.Passes.{EpochIs}
use Rattle.epoch_limbo.specs.declared.advancing.Advanced.{Advanced}
use Rattle.epoch_limbo.specs.declared.advancing.Advanced.TheVariants.{Moved, Held, Lost}

-- this call loaded an epoch, found the announcement of each caller none or newer after that, and moved the epoch by one
pub record IsMoved (v w : View) : Type 0 where
  pub epoch : ℕ
  pub loaded : List Event
  pub found : HoldsBetween v.front w.front (EpochIs v epoch) loaded
  pub checked : (i : ℕ) → i < v.sizes.callers → IsChecked v.sizes loaded w.front epoch i
  pub makes : Makes v (move_event v epoch ∷ []) w
  pub last : EndsBy (move_event v epoch) w

-- at the new front the announcement of a caller shows an epoch below one that this call had loaded, and those of the
-- callers before it were found to be none or newer
pub record IsHeldBy (v w : View) (caller : ℕ) : Type 0 where
  pub epoch : ℕ
  pub loaded : List Event
  pub found : HoldsBetween v.front w.front (EpochIs v epoch) loaded
  pub makes : Makes v [] w
  pub there : caller < v.sizes.callers
  pub before : (i : ℕ) → i < caller → IsChecked v.sizes loaded w.front epoch i
  pub some : word_at v.sizes w.front (announce_at v.sizes caller) ≢ 0
  pub older : word_at v.sizes w.front (announce_at v.sizes caller) ≤ epoch

-- the epoch is another one at the new front than that which this call had loaded
pub record IsAdvanceLost (v w : View) : Type 0 where
  pub epoch : ℕ
  pub loaded : List Event
  pub found : HoldsBetween v.front w.front (EpochIs v epoch) loaded
  pub makes : Makes v [] w
  pub moved : word_at v.sizes w.front (epoch_at v.sizes) ≢ epoch

abbrev pub MatchAdvanced : Advanced → View → View → Type 0
MatchAdvanced Moved v w = IsMoved v w
MatchAdvanced (Held caller) v w = IsHeldBy v w caller
MatchAdvanced Lost v w = IsAdvanceLost v w
