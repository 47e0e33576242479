-- What a token knows behind loads alone.
use Rattle.std.specs.Prelude.{◌≡◌}
use Rattle.core_journal.specs.Prefix.{IsPrefix}
use Rattle.core_rule.specs.Plays.{IsSound, seen}
use Rattle.core_rule.specs.declared.view.View.{View}

-- the token saw more of the journal, and made no event
pub record HasLoaded (v w : View) : Type 0 where
  pub grows : IsPrefix v.front w.front
  pub sound : IsSound w
  pub view : w ≡ seen v w.front
