-- A hand that looks at the table between its calls.
use Rattle.std.specs.Prelude.{◌≡◌}
use Rattle.core_journal.specs.Prefix.{IsPrefix}
use Rattle.core_rule.specs.declared.view.View.{View}
use Rattle.graph_updates.specs.Hands.{HandValue}

-- a view with what another has seen, what it accounts for and what it may draw
abbrev pub with_sight : View → View → View
with_sight v w = record v { front = w.front; met = w.met; others = w.others; draws = w.draws; drawn = w.drawn }

-- a hand has looked at the table and made no event: its front has grown, and all that it holds is as it was
pub record HandLooksOn (old new : HandValue) : Type 0 where
  pub grows : IsPrefix old.token.view.front new.token.view.front
  pub view : new.token.view ≡ with_sight old.token.view new.token.view
  pub limbo : new.limbo ≡ old.limbo
  pub spare : new.spare ≡ old.spare
  pub uses : new.uses ≡ old.uses
  pub retired : new.retired ≡ old.retired
