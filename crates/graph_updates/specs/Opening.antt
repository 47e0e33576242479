-- What making a hand tells.
use Rattle.std.specs.Prelude.{◌≡◌, ◌+◌, true, [], None}
use Rattle.packed_link.specs.Layout.{number_at}
use Rattle.core_journal.specs.Machine.{word_at}
use Rattle.core_journal.specs.Prefix.{IsPrefix}
use Rattle.core_rule.specs.declared.view.View.{View}
use Rattle.graph_table.specs.Tokens.{IsOf, TableValue}
use Rattle.graph_updates.specs.Hands.{HandValue}
use Rattle.graph_updates.specs.declared.opening.HandCause.{HandCause}
use Rattle.graph_updates.specs.declared.opening.HandCause.TheVariants.{Memory, NoNumber}
use Rattle.graph_updates.specs.declared.opening.HandRefused.{HandRefused}

-- a new hand has the next number, and the right to draw still; it has had no use, has an empty book and holds no node
pub record IsNew (v : View) (h : HandValue) : Type 0 where
  pub grows : IsPrefix v.front h.token.view.front
  pub number : h.token.view.number ≡ v.drawn
  pub right : h.token.view.draws ≡ true
  pub drawn : h.token.view.drawn ≡ v.drawn + 1
  pub book : h.token.view.book ≡ []
  pub limbo : h.limbo.nodes ≡ []
  pub spare : h.spare ≡ None
  pub uses : h.uses ≡ 0

-- why: nothing is said of memory, and else as many numbers were drawn as there are callers: this call found so, and the
-- token knew it
abbrev pub IsCause : HandCause → View → Type 0
IsCause Memory w = Unit {0}
IsCause NoNumber w =
    (word_at w.sizes w.front (number_at w.sizes) ≡ w.sizes.callers) × (w.drawn ≡ w.sizes.callers)

-- a token comes back: it's of the table, and but for what it has seen as it was
pub record IsTokenRefused (g : TableValue) (v : View) (r : HandRefused) : Type 0 where
  pub of : IsOf g r.token
  pub grows : IsPrefix v.front r.token.view.front
  pub same : r.token.view ≡ record v { front = r.token.view.front }
  pub cause : IsCause r.cause r.token.view
