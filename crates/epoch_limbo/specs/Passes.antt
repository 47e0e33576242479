-- What opening a pass tells.
use Rattle.std.specs.Prelude.{◌≡◌, ℕ, List, [], ◌∷◌}
use Rattle.packed_link.specs.Layout.{epoch_at}
use Rattle.core_journal.specs.declared.event.Event.{Event}
use Rattle.core_journal.specs.Machine.{word_at}
use Rattle.core_rule.specs.OwnEvents.{announce_event}
use Rattle.core_rule.specs.Stretches.{HasPass}
use Rattle.core_rule.specs.declared.view.View.{View}
use Rattle.core_stretches.specs.Makes.{Makes}
use Rattle.core_stretches.specs.Moments.{HoldsBetween, EndsBy}

-- the epoch is this one
abbrev pub EpochIs : View → ℕ → List Event → Type 0
EpochIs v epoch journal = word_at v.sizes journal (epoch_at v.sizes) ≡ epoch

-- the pass is open: its announcement, the last event of the front, is of an epoch that this call loaded
pub record IsOpened (v w : View) : Type 0 where
  pub epoch : ℕ
  pub loaded : List Event
  pub found : HoldsBetween v.front w.front (EpochIs v epoch) loaded
  pub makes : Makes v (announce_event v epoch ∷ []) w
  pub last : EndsBy (announce_event v epoch) w
  pub opened : HasPass w
