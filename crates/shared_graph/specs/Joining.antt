-- Callers whose tokens were joined to one, with which their table was closed.
use Rattle.std.specs.Prelude.{◌≡◌, ◌⊎◌, ℕ, List, [], ◌∷◌}
use Rattle.graph_kinds.specs.History.{Every}
use Rattle.core_journal.specs.Prefix.{IsPrefix}
use Rattle.core_rule.specs.Rule.{accounts}
use Rattle.core_rule.specs.declared.view.View.{View}
use Rattle.graph_table.specs.Table.{IsWhole}
use Rattle.graph_table.specs.Tokens.{IsOf, TableValue, TokenValue}
use Rattle.shared_graph.specs.Callers.{CallerValue, IsBetweenCalls, front_of}

-- an account stands in a list
abbrev pub HasThisAccount : List (ℕ × ℕ) → ℕ × ℕ → Type 0
HasThisAccount [] account = ⊥
HasThisAccount (a ∷ xs) account = (a ≡ account) ⊎ HasThisAccount xs account

-- a token has seen what the caller saw, and accounts for the caller's number with the caller's last event; the caller
-- was between two calls
pub record IsJoined (v : View) (c : CallerValue) : Type 0 where
  pub between : IsBetweenCalls c.hand
  pub seen : IsPrefix (front_of c) v.front
  pub account : HasThisAccount (accounts v) (c.hand.token.view.number, c.hand.token.view.last)

-- the table was closed with a token to which all these callers were joined
pub record AreClosedBy (g : TableValue) (cs : List CallerValue) (t : TokenValue) : Type 0 where
  pub of : IsOf g t
  pub whole : IsWhole t.view
  pub joined : Every (IsJoined t.view) cs
