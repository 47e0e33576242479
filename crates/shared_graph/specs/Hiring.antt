-- How callers are hired.
use Rattle.std.specs.Prelude.{◌≡◌, ℕ, true, false, []}
use Rattle.graph_table.specs.Tokens.{IsOf, TableValue, TokenValue}

-- a token of the graph that may draw the next number, which is this one, and has none yet
pub record IsToDraw (g : TableValue) (number : ℕ) (t : TokenValue) : Type 0 where
  pub of : IsOf g t
  pub draws : t.view.draws ≡ true
  pub numbered : t.view.numbered ≡ false
  pub book : t.view.book ≡ []
  pub drawn : t.view.drawn ≡ number
